pub mod LiveParts
pub mod LiveRuns
pub mod Living
pub mod Pipes
pub mod Talks
