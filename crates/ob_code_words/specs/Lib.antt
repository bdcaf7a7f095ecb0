pub mod Words
pub mod Effect
pub mod StackWords
pub mod WordsInCode
pub mod Running
pub mod Laws
