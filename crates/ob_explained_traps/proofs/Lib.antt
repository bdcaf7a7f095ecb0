pub mod Begun
pub mod Earlier
pub mod Firsts
pub mod Lines
pub mod TrapsOfCalls
pub mod TrapsOfRecords
