pub mod Bound
pub mod CodeEngine
pub mod Effects
pub mod SameCode
pub mod Total
