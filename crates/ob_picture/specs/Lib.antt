pub mod Places
pub mod Shapes
pub mod View
