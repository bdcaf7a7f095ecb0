pub mod Ends
pub mod Somewhere
pub mod VariableNames
