pub mod CarriedStates
pub mod CarryFaults
pub mod Compilations
pub mod CompileFaults
pub mod Openings
mod Listings
mod Names
