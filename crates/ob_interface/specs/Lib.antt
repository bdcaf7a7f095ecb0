pub mod Call
pub mod Export
pub mod View
pub mod Processes
