pub mod PlainWords
pub mod WalkedWords
pub mod AskedWords
pub mod ChosenWords
pub mod OptionRows
pub mod CommandForms
pub mod FormsAsked
pub mod HelpForms
