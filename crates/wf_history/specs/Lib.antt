pub mod Form
pub mod History
pub mod Kept
pub mod Legal
pub mod Lent
pub mod Place
pub mod View
