pub mod Appended
pub mod Digits
pub mod FieldLoops
pub mod GivenLengths
pub mod KeptFields
pub mod NamedCodings
pub mod Refusals
pub mod RuledNames
pub mod Splits
pub mod TextParts
mod WorkedMessages
mod WorkedPages
