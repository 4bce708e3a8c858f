pub mod Confirmed
pub mod Users
