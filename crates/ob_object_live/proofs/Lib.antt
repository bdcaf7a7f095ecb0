pub mod Begun
pub mod CallMade
pub mod CallsBehind
pub mod Named
pub mod Remarks
pub mod Talked
