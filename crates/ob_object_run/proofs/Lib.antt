mod Arranging
pub mod Chain
mod Checks
mod Early
pub mod Engines
pub mod Faults
mod InTurn
mod Interpreting
mod Noting
mod Placing
mod Replay
mod Sequential
pub mod Submissions
