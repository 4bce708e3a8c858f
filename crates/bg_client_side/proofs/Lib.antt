pub mod LeftLemmas
pub mod OutgoingLemmas
pub mod PassingLemmas
pub mod PassingSteps
pub mod ReadSequences
pub mod ReadSteps
pub mod ReadingLemmas
pub mod RunLemmas
pub mod SeatLemmas
pub mod SeatRunLemmas
pub mod SequenceLemmas
pub mod SoundLemmas
pub mod StepLemmas
pub mod Steps
mod WorkedCases
pub mod WriteSteps
