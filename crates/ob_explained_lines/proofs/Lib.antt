pub mod SameNames
pub mod Firsts
