pub mod Files
pub mod Handed
pub mod Printed
pub mod Reads
pub mod ShownNames
pub mod Texts
