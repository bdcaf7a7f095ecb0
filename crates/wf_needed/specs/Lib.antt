pub mod Listed
pub mod Needed
