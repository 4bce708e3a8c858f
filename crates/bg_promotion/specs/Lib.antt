pub mod Core
pub mod Represents
pub mod Phases
pub mod Answers
pub mod PhaseNames
