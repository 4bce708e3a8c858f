pub mod BodyFronts
pub mod ChunkLists
pub mod LawLemmas
pub mod OneBody
pub mod PieceLemmas
pub mod RelayLemmas
pub mod StepLemmas
