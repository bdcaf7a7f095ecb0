pub mod Places
pub mod Printing
pub mod PrintedAgain
pub mod ReadFaults
