pub mod HeadLemmas
pub mod OutgoingLemmas
