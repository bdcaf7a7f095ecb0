pub mod Runs
pub mod Exported
pub mod Walk
