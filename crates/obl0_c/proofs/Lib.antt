pub mod WholeModules
pub mod NoWords
pub mod Answered
