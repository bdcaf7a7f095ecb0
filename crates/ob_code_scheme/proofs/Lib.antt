pub mod Fine
pub mod Operands
pub mod Placing
pub mod Rows
pub mod Samples
pub mod Small
