pub mod Limits
pub mod Tree
pub mod View
pub mod Grammar
pub mod EndNamesAndNesting
pub mod Texts
