pub mod FirstRow
pub mod Refusals
pub mod Starts
pub mod Ties
