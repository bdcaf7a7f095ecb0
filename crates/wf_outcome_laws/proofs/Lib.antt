pub mod Alone
mod Blocks
mod EveryRun
mod Items
mod Lists
pub mod Merged
pub mod Merging
mod Opened
mod Ordered
mod Played
pub mod Running
mod Showing
pub mod Shows
mod Spending
mod Stages
pub mod Submitting
