pub mod ByScopes
pub mod CheckedText
pub mod CheckingModules
pub mod CheckingProcedures
pub mod ModuleText
