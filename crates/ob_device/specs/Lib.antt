pub mod Devices
pub mod Counting
