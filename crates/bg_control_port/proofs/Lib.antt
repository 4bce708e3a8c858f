pub mod Admitting
pub mod AheadLemmas
pub mod Bounded
pub mod Firsts
pub mod LineLemmas
pub mod Stepping
mod GivenInOrder
