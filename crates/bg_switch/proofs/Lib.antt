pub mod RevisionLists
pub mod SeatsKept
