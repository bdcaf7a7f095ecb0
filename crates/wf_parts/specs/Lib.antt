pub mod Faults
pub mod Label
pub mod Numbering
pub mod Parts
pub mod Split
pub mod SplitView
pub mod View
