-- Outcomes that are told or refused, of the beginning of a module's text.
use Rattle.std.proofs.Common.{◌≡◌, ◌<◌, ◌++◌, ℕ, List, Result, Ok, Err, Option, IfOk, codes, length}
use Rattle.ob_answer_explained.proofs.AtOnce.{IsAtOnce, calls_refused, refused_of_whole}
use Rattle.ob_answer_explained.proofs.Beginnings.{beginning}
use Rattle.ob_answer_explained.proofs.Shown.{run_shown}
use Rattle.ob_answer_explained.specs.CommandTexts.{CallsTexts, calls_of_text, of_text}
use Rattle.ob_answer_files.specs.Printed.{IsRefused, IsTextAnswer, refused}
use Rattle.ob_answer_files.specs.declared.answered.Answer.{Answer}
use Rattle.ob_answer_searches.specs.ExplainedAlways.{IsAlwaysFaultShown, run_of_calls}
use Rattle.ob_answer_searches.specs.OutcomesAnswers.{IsNumbered}
use Rattle.ob_answer_searches.specs.OutcomesFaultLines.{outcomes_fault_line}
use Rattle.ob_command.specs.CommandLine.{Text}
use Rattle.ob_object_compile.specs.Asked.{Asked, TellsAtOnce}
use Rattle.ob_object_compile.specs.declared.compiling.CompileFault.{CompileFault}
use Rattle.ob_object_outcomes.specs.OutcomesFaults.{IsFaultOf}
use Rattle.ob_object_outcomes.specs.declared.finding.OutcomesFault.{OutcomesFault}
use Rattle.ob_object_outcomes.specs.declared.finding.OutcomesFault.TheVariants as Faults
use Rattle.ob_object_calls.specs.declared.sequential.SeqTextFault.TheVariants as Runs

-- a fault of an object
abbrev pub of_compiling : CompileFault → OutcomesFault
of_compiling c = Faults.Texts (Runs.Compile c)

-- what is told at once is told of each text that is too long
pub outcomes_refused : (a : Asked) (script : List ℕ) (always : Option Text) (most : ℕ) (Many : Type 0) (c : CompileFault) → 65536 < length a.text → IsAtOnce a c
    → IsFaultOf a script always most Many (of_compiling c)
outcomes_refused a script always most Many c longer at_once = (calls_refused a script c longer at_once, λ is. let bad = is in cc)

-- and shown alike
pub always_shown : (t : CallsTexts) (whole : List ℕ) (c : CompileFault) (x : Answer) → IsAtOnce (of_text t.asked whole) c
    → IsAlwaysFaultShown t (of_compiling c) x → IsAlwaysFaultShown (calls_of_text t whole) (of_compiling c) x
always_shown t whole c x at_once shown = run_shown (run_of_calls t) whole c x at_once shown

-- the line of a fault by which texts are refused
pub text_refused : {T E : Type 0} (a : Asked) (Says : List ℕ → Text → Type 0) (Refusal : List ℕ → OutcomesFault → Type 0) (e : OutcomesFault) (result : Result Answer E)
    → IfOk result (λ x. IsRefused x 1 (outcomes_fault_line a.beginning e ++ codes "\n")) → IfOk result (λ _. IsNumbered e)
    → TellsAtOnce a (λ c. ◌≡◌ {A = Result T OutcomesFault} (Err e) (Err (of_compiling c)))
    → ((whole : List ℕ) (c : CompileFault) → 65536 < length whole → IsAtOnce (of_text a whole) c → Refusal whole (of_compiling c))
    → Refusal a.text e
    → IfOk result (λ x. (whole : List ℕ) → a.text ≡ beginning whole
    → IsTextAnswer (Says whole) (λ f. Refusal whole f × IsNumbered f) (outcomes_fault_line a.beginning) x)
text_refused a Says Refusal e (Ok x) told numbered tells longer_is h =
    λ whole is.
    refused e (refused_of_whole of_compiling a Refusal e whole is tells (λ c longer at_once _. longer_is whole c longer at_once) h, numbered) told
text_refused a Says Refusal e (Err f) told numbered tells longer_is h = tt
