-- The outcomes after an event come to an end.
pub mod Counts
pub mod Work
pub mod Removing
pub mod Settled
pub mod Lowering
pub mod Entering
pub mod Leaving
pub mod Once
