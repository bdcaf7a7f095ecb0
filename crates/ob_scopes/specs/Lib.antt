pub mod Usages
pub mod Objects
pub mod SimpleTypes
pub mod Names
pub mod TakenNames
pub mod Shapes
