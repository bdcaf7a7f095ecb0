pub mod Lists
pub mod Fields
pub mod Looked
pub mod Kept
pub mod Seconds
pub mod Entries
pub mod Declared
pub mod SameTypes
