pub mod AnswersAndNotes
pub mod StateReplies
