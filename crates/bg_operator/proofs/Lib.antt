pub mod Pieces
pub mod FirstLine
pub mod Marks
pub mod LineWords
pub mod WordNumbers
pub mod PlainLines
pub mod LongLines
pub mod LineReadings
pub mod TimeLimits
mod HttpLineCases
mod WholeLines
