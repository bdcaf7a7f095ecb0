pub mod Runs
pub mod Acting
pub mod Procedures
pub mod Stepping
pub mod Rooms
pub mod View
