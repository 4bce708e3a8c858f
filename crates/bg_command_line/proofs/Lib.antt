pub mod WordsTaken
pub mod ValuesAccepted
pub mod Entered
pub mod ArgumentRows
pub mod SubcommandRows
pub mod AcceptedWords
pub mod ErrorKinds
mod Additions
pub mod ListenSteps
pub mod BadAddresses
