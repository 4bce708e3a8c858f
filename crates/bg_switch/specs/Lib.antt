pub mod Decisions
pub mod OperatorLines
pub mod Restarted
pub mod Resumed
pub mod RevisionLists
pub mod Rollbacks
pub mod StreamLimits
