-- What compaction keeps of a past.
pub mod Steps
pub mod Marks
pub mod Alike
pub mod Without
pub mod Thin
pub mod Questions
pub mod Allowed
pub mod Legal
pub mod Closed
pub mod Counts
pub mod Same
pub mod Commuting
pub mod Raising
pub mod Compacted
pub mod Sounds
pub mod Tables
pub mod Lengths
