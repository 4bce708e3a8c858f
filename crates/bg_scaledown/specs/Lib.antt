pub mod Due
pub mod Sorted
pub mod Events
