pub mod Words
pub mod Adder
pub mod Spin
pub mod AdderLaw
pub mod SpinLaw
