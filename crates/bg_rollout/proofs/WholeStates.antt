-- Lemmas about a rollout as a whole.
pub mod Folding
pub mod Carrying
pub mod Openings
pub mod Compacting
pub mod Telling
pub mod Journaling
