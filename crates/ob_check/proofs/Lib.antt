pub mod Around
pub mod Exported
pub mod HeadingSteps
pub mod NoModule
pub mod ProcedureSteps
pub mod Refused
