pub mod CallNames
pub mod Lines
pub mod CallPlaces
pub mod Causes
