pub mod AtOnceMade
pub mod Made
pub mod Begun
pub mod AnswersToWords
pub mod LiveBegun
