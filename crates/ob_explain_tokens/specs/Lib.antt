pub mod Actuals
pub mod Around
pub mod ClosedConstructs
pub mod Kinds
pub mod Open
pub mod Parens
