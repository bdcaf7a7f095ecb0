pub mod NoTokens
pub mod OpenSteps
pub mod Steps
