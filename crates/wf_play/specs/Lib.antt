pub mod Ended
pub mod ItemSteps
pub mod Laws
pub mod LockStep
pub mod Makers
pub mod Played
