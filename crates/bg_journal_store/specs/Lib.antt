pub mod Schema
pub mod Journal
pub mod Faults
pub mod Failures
