pub mod Again
pub mod Alike
pub mod BareConditions
pub mod PrintedLoops
pub mod ReadTexts
pub mod SpacedTokens
pub mod Worded
