pub mod EndLemmas
pub mod RunLemmas
pub mod StallLemmas
pub mod StepLemmas
pub mod TimeoutLemmas
