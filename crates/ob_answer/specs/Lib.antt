pub mod AllRuns
pub mod Refusals
pub mod Answers
pub mod Alone
pub mod LiveAnswers
