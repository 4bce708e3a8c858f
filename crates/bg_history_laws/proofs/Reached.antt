-- What holds of every past whose entries were allowed.
pub mod Existing
pub mod Allowing
pub mod Sizes
pub mod Numbers
pub mod Running
pub mod Unmarked
pub mod Steady
pub mod Staying
pub mod Selected
pub mod Marked
pub mod Requests
pub mod Reaching
