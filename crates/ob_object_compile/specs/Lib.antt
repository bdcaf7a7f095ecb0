pub mod Asked
pub mod Compilation
pub mod CompilationParts
pub mod Listed
pub mod Listing
pub mod Sound
pub mod View
