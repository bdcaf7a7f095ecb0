pub mod Agreeing
pub mod Close
pub mod Desk
pub mod Floor
pub mod Seat
pub mod Submission
