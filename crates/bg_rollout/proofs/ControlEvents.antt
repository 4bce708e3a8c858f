-- Lemmas about the events that come from no seat.
pub mod Legal
pub mod Events
pub mod Allowing
pub mod Commands
pub mod Deploys
