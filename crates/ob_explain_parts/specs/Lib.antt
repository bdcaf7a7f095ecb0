pub mod Fields
pub mod Types
pub mod Parts
pub mod FieldNames
pub mod Forms
pub mod Parameters
pub mod Inside
