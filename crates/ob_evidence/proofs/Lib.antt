pub mod Noted
pub mod Shown
