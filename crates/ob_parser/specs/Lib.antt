pub mod ParseFaults
pub mod Reading
pub mod Forms
pub mod Answers
pub mod SourceFaults
