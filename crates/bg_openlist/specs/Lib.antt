pub mod Block
pub mod Distinct
pub mod Family
pub mod Nodes
pub mod Places
pub mod Rings
pub mod Tables
