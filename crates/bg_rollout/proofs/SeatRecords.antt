-- Lemmas about seats and their records.
pub mod Seats
pub mod Seating
pub mod Seated
pub mod MetSeats
pub mod Sequence
pub mod Gathered
