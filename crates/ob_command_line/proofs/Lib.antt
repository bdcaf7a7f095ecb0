pub mod Added
pub mod Behind
