pub mod Declared
pub mod Lists
pub mod Needed
pub mod Steps
pub mod Types
