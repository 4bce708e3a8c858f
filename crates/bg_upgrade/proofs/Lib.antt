pub mod AcceptanceLemmas
pub mod LawLemmas
pub mod ReadHeads
pub mod SentFields
pub mod TextLemmas
mod WorkedUpgrades
