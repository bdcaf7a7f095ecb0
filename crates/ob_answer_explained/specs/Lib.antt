pub mod Beginnings
pub mod CommandTexts
pub mod Refusals
pub mod Explains
