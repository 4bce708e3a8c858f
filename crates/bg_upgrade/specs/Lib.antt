pub mod Acceptances
pub mod HeadTexts
pub mod Laws
pub mod SentHeads
pub mod Upgrades
