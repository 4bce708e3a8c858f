pub mod Choices
pub mod Healths
pub mod Lists
pub mod OwnPorts
pub mod Routing
pub mod Shares
pub mod IdleTimeouts
pub mod States
