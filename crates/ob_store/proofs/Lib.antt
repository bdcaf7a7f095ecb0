pub mod Overwritten
pub mod Parts
pub mod Stored
pub mod TakenBack
