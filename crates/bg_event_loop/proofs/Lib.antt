pub mod LiveLemmas
pub mod SeatLemmas
pub mod TurnLemmas
