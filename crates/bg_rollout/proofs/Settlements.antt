-- Lemmas about the outcomes that a past allows.
pub mod Reaching
pub mod Marking
pub mod Outcomes
pub mod Old
