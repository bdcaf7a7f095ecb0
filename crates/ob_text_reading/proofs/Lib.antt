pub mod Counting
pub mod Faults
pub mod Faulty
pub mod Growing
pub mod HistoryPlaces
pub mod KindsLed
pub mod LineRuns
pub mod Naming
pub mod NoComments
pub mod OneEvent
pub mod Opened
pub mod Openers
pub mod OpeningLines
pub mod RecordHeads
pub mod RecordPlaces
pub mod Rest
pub mod Seating
pub mod Steps
pub mod Telling
pub mod Whole
mod NamedLines
mod WrittenLines
