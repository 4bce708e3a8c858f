pub mod Buffers
pub mod Causes
pub mod Clients
pub mod Connections
pub mod Reasons
pub mod ResponseReads
pub mod Routes
pub mod Seats
