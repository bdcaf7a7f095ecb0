mod Example
pub mod Once
pub mod Positions
pub mod Same
pub mod Turns
