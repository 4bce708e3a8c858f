pub mod Framings
pub mod Laws
pub mod Pieces
pub mod Places
pub mod Relays
pub mod Steps
