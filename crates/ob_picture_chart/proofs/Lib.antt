pub mod Numbers
pub mod Orders
pub mod Rows
pub mod Steps
