-- The theorem of the compiler, from its parts.
use Rattle.std.proofs.Common.{◌≡◌, ℕ, Some, sym, ap, ◌∙◌, subst}
use Rattle.std.specs.Prelude.{Option}
use Rattle.ob_code_scheme.specs.Temporaries.{stack_words}
use Rattle.ob_code_scheme.specs.Scheme.{code_of, entry_of}
use Rattle.ob_code_scheme.specs.Correct.{Behaves, CodeIsCorrect}
use Rattle.ob_code_scheme.proofs.Fine.{fine_procedure}
use Rattle.ob_code_scheme.specs.Executing.{ExecutionRuns}
use Rattle.ob_code_correct.proofs.Memory.{memory_holds}
use Rattle.ob_code_correct.proofs.PlacingOwed.{code_placed}
use Rattle.ob_code_correct.proofs.Actuals.{evaluation_runs}
use Rattle.ob_code_correct.proofs.Executions.{execution_runs}
use Rattle.ob_code_correct.proofs.Fitting.{arguments_each}
use Rattle.ob_code_correct.proofs.Ends.{behaves}

pub all_runs : ExecutionRuns
all_runs = execution_runs memory_holds (evaluation_runs memory_holds code_placed) code_placed

abbrev number_in : Option ℕ → ℕ
number_in (Some n) = n
number_in _ = 0

pub code_correct : CodeIsCorrect
code_correct program well i p entry here exported begins state arguments budget typed fit =
    let code = code_of program in
    let at : entry_of program.procedures i ≡ entry = ap number_in (sym (code_placed.entries_are program i p here) ∙ begins) in
    let simple = (fine_procedure program i p well here).results exported in
    let follows = all_runs.export_runs program code.instructions well (code_placed.procedures_stand program) i p here exported state arguments budget typed (arguments_each p.parameters arguments simple fit.typed fit.ranged) in
    subst (λ (n : ℕ). Behaves program code.instructions (stack_words program.procedures) n p state arguments budget) at
    (behaves program code.instructions (entry_of program.procedures i) p state arguments budget typed follows)
