pub mod ClapTexts
pub mod CommandLine
pub mod Commands
