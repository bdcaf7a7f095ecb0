pub mod Codes
pub mod WorkTasks
pub mod Scoped
pub mod Tasks
pub mod Opening
pub mod Operands
