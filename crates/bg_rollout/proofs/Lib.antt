pub mod Linked
pub mod OpenRequests
pub mod SeatRecords
pub mod ControlEvents
pub mod Settlements
pub mod WholeStates
pub mod Following
pub mod JournalsFollowed
