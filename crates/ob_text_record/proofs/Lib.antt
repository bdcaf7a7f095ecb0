mod Each
pub mod SameTexts
pub mod Texts
