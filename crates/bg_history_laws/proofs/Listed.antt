-- The revisions that a past gives.
pub mod Members
pub mod Templates
pub mod Mapped
pub mod Changed
pub mod Found
