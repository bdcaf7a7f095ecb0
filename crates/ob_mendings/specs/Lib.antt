pub mod Mendings
pub mod Verdicts
