pub mod Directions
pub mod Laws
pub mod Peers
pub mod Runs
pub mod Tunnels
