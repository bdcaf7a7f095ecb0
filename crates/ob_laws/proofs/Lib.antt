pub mod Along
mod Carried
pub mod DeclaredNames
pub mod EndedCalls
pub mod Events
pub mod ExportNames
pub mod FieldNames
pub mod Found
pub mod Fronts
mod Meant
pub mod Names
pub mod Numbers
pub mod OneEnd
mod Outcomes
pub mod PlainWords
pub mod Positions
pub mod PrintedValues
pub mod ReadBack
pub mod ReadValues
pub mod Records
pub mod Replies
pub mod Runs
pub mod SaidValues
pub mod SameStates
mod Scripts
pub mod Told
pub mod Traps
pub mod Typed
pub mod ValueWords
pub mod WordLines
pub mod Words
