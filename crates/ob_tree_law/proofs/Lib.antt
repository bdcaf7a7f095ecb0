pub mod Alike
pub mod Block
mod Height
mod OneWord
pub mod Opened
pub mod Opening
pub mod Ready
mod Rows
pub mod Settled
pub mod Simulated
pub mod Small
pub mod Standing
pub mod Theorem
pub mod TreeLaw
pub mod Whole
pub mod Within
