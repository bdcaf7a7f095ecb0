pub mod Beginnings
pub mod AtOnce
pub mod RecordRefused
pub mod Shown
pub mod TextsSame
