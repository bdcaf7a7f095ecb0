pub mod Height
pub mod LikeCode
pub mod Operands
pub mod Places
pub mod Reserve
pub mod TreeEngine
pub mod TreeLaw
pub mod Work
