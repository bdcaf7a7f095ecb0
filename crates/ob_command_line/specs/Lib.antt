pub mod ClapCommand
pub mod HelpWords
