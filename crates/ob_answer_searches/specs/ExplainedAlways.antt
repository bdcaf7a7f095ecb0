-- What `explain` answers to the texts of calls and the name of an export that is to answer TRUE always.
use Rattle.std.specs.Prelude.{ℕ, List, [], ◌++◌, Some, codes}
use Rattle.ob_answer_explained.specs.CommandTexts.{CallsTexts, RunTexts}
use Rattle.ob_answer_explained.specs.Explains.{IsExplained, IsRunFaultShown}
use Rattle.ob_answer_files.specs.Printed.{IsRefused}
use Rattle.ob_answer_files.specs.declared.answered.Answer.{Answer}
use Rattle.ob_answer_searches.specs.OutcomesAnswers.{IsNumbered}
use Rattle.ob_answer_searches.specs.OutcomesFaultLines.{not_always_line, outcomes_fault_line}
use Rattle.ob_command.specs.CommandLine.{Text, default_most_reached}
use Rattle.ob_object_compile.specs.Asked.{Asked}
use Rattle.ob_object_outcomes.specs.Outcomes.{HoldsAlways}
use Rattle.ob_object_outcomes.specs.OutcomesFaults.{IsOutcomesFault}
use Rattle.ob_object_outcomes.specs.Scripted.{IsScripted, ScriptedParts}
use Rattle.ob_object_outcomes.specs.declared.finding.OutcomesFault.{OutcomesFault}
use Rattle.ob_object_outcomes.specs.declared.finding.OutcomesFault.TheVariants as Faults
use Rattle.ob_object_perform.specs.Texts.{run_texts}
use Rattle.ob_object_perform.specs.declared.performing.PerformFault.{PerformFault}
use Rattle.ob_object_perform.specs.declared.performing.PerformFault.TheVariants as Performs
use Rattle.ob_object_calls.specs.declared.sequential.SeqTextFault.{SeqTextFault}
use Rattle.ob_object_calls.specs.declared.sequential.SeqTextFault.TheVariants as Sequences
use Rattle.ob_object_outcomes.specs.Stories.{TellsStory}
use Rattle.wf_history.specs.declared.event.CallId.{CallId}

-- the export always answers TRUE
abbrev pub HasAlways : Asked → (script_bytes : List ℕ) → (name : Text) → Type 0
HasAlways a script_bytes name = (s : ScriptedParts) × HoldsAlways a script_bytes s name

-- behind calls it does not: the line that names them, and below it their story
abbrev pub IsStoryShown : CallsTexts → (path : List CallId) → Answer → Type 0
IsStoryShown t path answer =
    (s : ScriptedParts) × (told : Text) × IsScripted t.asked t.script s × TellsStory s path told
    × IsRefused answer 1 (not_always_line path ++ codes "\n" ++ told)

-- the line of a fault, and words below
abbrev pub HasWordsBelow : (line : Text) → Answer → Type 0
HasWordsBelow line answer = (words : Text) × IsRefused answer 1 (line ++ codes "\n" ++ words)

-- the calls as those of a run whose schedule has no items
abbrev pub run_of_calls : CallsTexts → RunTexts
run_of_calls t = record { run = record { calls = t.calls; schedule_name = [] }; texts = run_texts t.asked t.script []; record_text = t.record_text }

-- a fault of their texts as one of that run
abbrev pub run_fault : SeqTextFault → PerformFault
run_fault (Sequences.Compile e) = Performs.Compile e
run_fault (Sequences.Script e) = Performs.Script e
run_fault Sequences.NoMemory = Performs.NoMemory

-- a fault of the texts is shown as of a run: the processes are those below the number behind -n
abbrev pub IsAlwaysFaultShown : CallsTexts → OutcomesFault → Answer → Type 0
IsAlwaysFaultShown t (Faults.Texts e) answer = IsRunFaultShown (run_of_calls t) (run_fault e) answer
IsAlwaysFaultShown t (Faults.NotAlways path) answer = IsStoryShown t path.items answer
IsAlwaysFaultShown t e answer = HasWordsBelow (outcomes_fault_line t.asked.beginning e) answer

-- to texts which are right where `outcomes --always` prints outcomes
abbrev pub IsAlwaysExplained : (name : Text) → CallsTexts → Answer → Type 0
IsAlwaysExplained name t =
    IsExplained (HasAlways t.asked t.script name) (λ e. IsOutcomesFault t.asked t.script (Some name) default_most_reached e × IsNumbered e) (IsAlwaysFaultShown t)
