pub mod Agreed
mod ByCode
pub mod Copied
pub mod Crossed
pub mod Crossing
pub mod Ended
pub mod Evident
pub mod Few
pub mod Fitting
pub mod Found
pub mod Fronts
pub mod Histories
mod KeptStates
pub mod Picked
pub mod Recorded
pub mod Recordings
pub mod Renamed
pub mod Renumbered
pub mod Shown
pub mod Silent
pub mod Texts
pub mod Told
pub mod Verdicts
pub mod Wording
