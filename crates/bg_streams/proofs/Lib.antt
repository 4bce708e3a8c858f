pub mod LawLemmas
pub mod PassingLemmas
pub mod ResponseLemmas
pub mod StreamLemmas
