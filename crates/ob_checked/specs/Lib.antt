pub mod CheckedModule
pub mod Exports
pub mod Fields
pub mod Traps
pub mod Types
pub mod View
