-- What a legal history promises to the users of the switch.
pub mod Outcomes
pub mod Attempts
pub mod Names
pub mod Sizes
pub mod Rollbacks
pub mod Promoting
pub mod Live
pub mod OpenRequests
pub mod Ports
pub mod Serving
pub mod Draining
pub mod Examples
pub mod WorkedRollbacks
pub mod WorkedPromotions
pub mod WorkedLive
pub mod WorkedRequests
