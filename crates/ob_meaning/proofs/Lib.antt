pub mod ConstantValues
pub mod Kept
pub mod Known
pub mod ResolvedExpressions
pub mod ResolvedModules
pub mod ResolvedScopes
pub mod ResolvedStatements
mod Rows
pub mod SameCalls
pub mod SameExpressions
pub mod SameStatements
pub mod SameStores
pub mod SameValues
