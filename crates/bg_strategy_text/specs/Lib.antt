pub mod Values
pub mod Table
pub mod Lookup
pub mod Faults
pub mod Settings
pub mod Reading
pub mod Texts
