pub mod Declares
pub mod Fits
pub mod Pushes
pub mod Searches
