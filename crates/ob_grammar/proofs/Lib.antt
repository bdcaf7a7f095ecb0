pub mod Exits
pub mod Loops
pub mod Rows
