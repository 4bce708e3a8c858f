pub mod FirstRows
pub mod Remembered
pub mod ReadOrders
pub mod Refused
pub mod SameRows
