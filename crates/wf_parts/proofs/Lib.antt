pub mod Picking
pub mod Rowing
pub mod Seating
pub mod Splitting
pub mod Stepping
pub mod Turning
