pub mod Added
pub mod Begun
pub mod NoNames
pub mod Places
pub mod Tried
