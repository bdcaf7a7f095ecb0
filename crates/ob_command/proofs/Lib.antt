pub mod OneSort
pub mod Numbers
pub mod CallPlaces
pub mod BuiltLine
pub mod FilledRows
pub mod Required
pub mod Readings
pub mod SplitTexts
