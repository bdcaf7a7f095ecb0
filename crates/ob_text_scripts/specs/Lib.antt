pub mod Chance
pub mod Finish
pub mod Script
pub mod ScriptLine
