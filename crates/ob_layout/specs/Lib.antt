pub mod Counted
pub mod Frames
pub mod Layout
pub mod Places
pub mod Reading
pub mod Shapes
pub mod View
