mod Alone
mod Behinds
mod ByCode
mod InLockStep
pub mod Mapped
mod OneText
pub mod PerformObjects
pub mod Pictures
pub mod Readings
pub mod Refusals
pub mod Runs
pub mod ScriptFits
mod Spending
mod TreeObjects
