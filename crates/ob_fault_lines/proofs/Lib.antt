pub mod Counted
pub mod Names
