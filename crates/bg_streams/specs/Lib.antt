pub mod Faults
pub mod Framings
pub mod HeadTexts
pub mod Laws
pub mod Passings
pub mod ResponseRelays
pub mod ResponseStreams
