pub mod Alike
mod Ends
mod Items
pub mod Leading
mod Makings
mod Plays
pub mod Starts
