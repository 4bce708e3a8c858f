pub mod ArrivedLemmas
pub mod KeptLemmas
pub mod KeptRunLemmas
pub mod LawLemmas
pub mod ReceivingLemmas
pub mod StreamingLemmas
pub mod TextLemmas
pub mod VersionLemmas
