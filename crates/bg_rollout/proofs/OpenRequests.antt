-- Lemmas about open requests and their lists.
pub mod Requests
pub mod Lists
pub mod Placed
pub mod Shares
pub mod JudgedEnters
pub mod Entering
pub mod Leaving
pub mod GoingOn
