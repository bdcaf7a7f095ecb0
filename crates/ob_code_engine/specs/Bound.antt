-- What a call takes of its process in all, over compiled code with a budget of turns.
use Rattle.std.specs.Prelude.{ℕ, ℤ, List}
use Rattle.ob_typing.specs.Program.{Program}
use Rattle.ob_code_machine.specs.Body.{Run}
use Rattle.ob_code_scheme.specs.WellFormed.{IsWellFormed}
use Rattle.ob_code_correct.specs.Compiled.{parts_of, engine_of, Fits, HasReserve, IsLawfulBlock, body_limit}
use Rattle.wf_table.specs.Object.{State}
use Rattle.wf_table.specs.Runs.{Act, IsRun}
use Rattle.wf_table.specs.Start.{sizes_of}
use Rattle.wf_table.specs.Counted.{counted_from, counted_run}
use Rattle.wf_table.specs.Limit.{AllWithinLimit}

-- in every run of an object of n processes over the code, whatever the schedule and the submitted calls: the open or last call of each
-- process has taken no more own steps than the bound, and in each of at most 2n bodies (budget + 1) times as many as the code has
-- instructions. Nothing is asked of the calls: each ends
abbrev pub CallsKeepTotal : Type 0
CallsKeepTotal =
    (program : Program) (budget n : ℕ) → IsWellFormed program → (opening : List ℤ) (acts : List Act) (s : State Run) →
    (r : IsRun (engine_of program budget) (IsLawfulBlock program) (Fits program) (HasReserve (parts_of program budget)) n opening acts s) →
    AllWithinLimit (sizes_of (engine_of program budget) n) (body_limit program budget)
    (counted_run (engine_of program budget) (sizes_of (engine_of program budget) n) acts (counted_from r.start))
