pub mod Connected
pub mod Flushed
pub mod HandedOn
pub mod Pieces
pub mod Rounds
