pub mod Tops
mod Variants
pub mod Division
pub mod Memory
