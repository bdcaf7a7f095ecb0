pub mod Behind
pub mod Remarks
