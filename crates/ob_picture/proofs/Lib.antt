pub mod Appended
pub mod Each
pub mod Tops
