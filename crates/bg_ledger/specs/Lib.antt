pub mod Blanks
pub mod Holdings
pub mod Picks
pub mod Tokens
