mod Again
mod Arguments
pub mod Ended
mod OnScalars
mod Results
mod Stands
mod Words
