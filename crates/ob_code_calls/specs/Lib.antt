pub mod Calls
pub mod Keeping
pub mod Led
pub mod Parts
pub mod Scalars
pub mod Standing
