pub mod FoundRecords
pub mod Meant
pub mod Printed
pub mod ServedLimit
pub mod Shown
pub mod Writable
