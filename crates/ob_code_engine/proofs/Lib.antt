mod BoundTotal
mod Choices
mod Counts
mod Effects
mod EngineTotal
mod Exports
mod Formals
mod Found
mod Instructions
mod Laid
pub mod Leaps
mod Made
