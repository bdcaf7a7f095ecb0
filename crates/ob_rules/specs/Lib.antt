pub mod Checking
pub mod CheckingTypes
pub mod CheckingVariables
pub mod Designations
pub mod CheckingStatements
pub mod ByScopes
pub mod FirstParts
