-- What is answered on all runs of a script.
use Rattle.std.specs.Prelude.{Bool, true, false, if◌then◌else◌}
use Rattle.ob_answer.specs.declared.all_runs.AllRuns as Rust
use Rattle.ob_answer.specs.declared.all_runs.AllRuns.TheVariants as Variants
use Rattle.ob_answer_explained.specs.CommandTexts.{CallsTexts}
use Rattle.ob_answer_files.specs.declared.answered.Answer.{Answer}
use Rattle.ob_answer_searches.specs.ExplainedAlways.{IsAlwaysExplained}
use Rattle.ob_answer_searches.specs.OutcomesAnswers.{IsOutcomesAnswer, Looking, looking_of}
use Rattle.ob_answer_searches.specs.WholesAnswers.{IsWholesAnswer}
use Rattle.ob_command.specs.CommandLine.{OutcomesRequest, Text}

-- what may happen in them, or each outcome as a whole, or how one comes to where an export does not answer TRUE
pub data AllRuns : Type 0 where
  Told : Looking → AllRuns
  Whole : Looking → AllRuns
  Explained : (name : Text) → AllRuns

abbrev pub all_runs_of : Rust.AllRuns → AllRuns
all_runs_of (Variants.Told looking) = Told (looking_of looking)
all_runs_of (Variants.Whole looking) = Whole (looking_of looking)
all_runs_of (Variants.Explained name) = Explained name.now

abbrev pub looking_for : OutcomesRequest → Looking
looking_for outcomes = record { always = outcomes.always; most = outcomes.most }

-- what words ask of all runs
abbrev pub all_runs_for : OutcomesRequest → AllRuns
all_runs_for outcomes = if outcomes.whole then Whole (looking_for outcomes) else Told (looking_for outcomes)

-- to the texts of calls
abbrev pub IsAllRunsAnswer : AllRuns → CallsTexts → Answer → Type 0
IsAllRunsAnswer (Told looking) t = IsOutcomesAnswer looking t.asked t.script
IsAllRunsAnswer (Whole looking) t = IsWholesAnswer looking t.asked t.script
IsAllRunsAnswer (Explained name) t = IsAlwaysExplained name t

-- the faults of the record with whose values the object begins are shown to people
abbrev pub shows_all_runs : AllRuns → Bool
shows_all_runs (Told looking) = false
shows_all_runs (Whole looking) = false
shows_all_runs (Explained name) = true
