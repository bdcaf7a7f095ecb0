pub mod Laws
pub mod Named
pub mod Record
pub mod RecordText
pub mod StateText
pub mod Uses
pub mod Values
pub mod Variables
