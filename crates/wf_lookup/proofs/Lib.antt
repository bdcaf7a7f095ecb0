pub mod Counted
pub mod Items
pub mod Nexts
pub mod OpenCalls
pub mod Turns
