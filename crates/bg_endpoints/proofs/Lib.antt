pub mod Chosen
pub mod Left
pub mod WorkedChoices
