pub mod CallsKept
pub mod Spending
pub mod Times
