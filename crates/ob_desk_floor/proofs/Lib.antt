pub mod Closes
pub mod Floors
pub mod Strangers
pub mod Submissions
pub mod Turns
