pub mod ScriptRuns
pub mod Shown
pub mod WholeOutcomeRuns
