pub mod Counts
pub mod Digits
pub mod Form
