pub mod Closed
mod Crossing
mod Ends
mod Joins
mod Numbered
pub mod ReadCalls
mod Seats
mod Started
pub mod Submitted
mod TextFaults
