pub mod Joined
pub mod Rounds
pub mod ServeFaults
pub mod NotAllEnded
pub mod PromisesOfServe
pub mod PromisesOfServeTexts
pub mod WorkersGathered
