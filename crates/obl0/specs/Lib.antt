pub mod Refusals
pub mod Hints
