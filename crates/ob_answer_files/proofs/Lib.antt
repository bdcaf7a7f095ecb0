pub mod Cuts
pub mod FilesRead
pub mod HandedOver
pub mod Named
