pub mod Steps
pub mod FieldSteps
pub mod PartSteps
pub mod OperandSteps
pub mod InsideSteps
