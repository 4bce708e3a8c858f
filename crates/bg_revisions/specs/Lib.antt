pub mod PortLists
pub mod Rosters
