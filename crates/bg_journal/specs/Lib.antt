pub mod Texts
pub mod Words
pub mod Readings
pub mod Faults
pub mod Ticks
pub mod Bounds
