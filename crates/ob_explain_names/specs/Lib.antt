pub mod Declarations
pub mod Expected
pub mod Known
pub mod Lookup
pub mod Numerals
pub mod Visible
