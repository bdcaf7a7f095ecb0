-- What a call takes of its process in all, over an engine with a budget of turns.
use Rattle.std.specs.Prelude.{ℕ, suc, ◌*◌, ℤ, List, length}
use Rattle.ob_code_machine.specs.Body.{Run}
use Rattle.ob_code_correct.specs.CodeMeaning.{EngineParts, code_meaning}
use Rattle.ob_code_correct.specs.Compiled.{HasReserve, IsFitting}
use Rattle.ob_code_correct.specs.Parts.{IsLawfulFor}
use Rattle.wf_table.specs.Object.{State}
use Rattle.wf_table.specs.Runs.{Act, IsRun}
use Rattle.wf_table.specs.Start.{sizes_of}
use Rattle.wf_table.specs.Counted.{counted_from, counted_run}
use Rattle.wf_table.specs.Limit.{AllWithinLimit}

-- the most instructions that a body takes: each turn, and the call itself, pays for as many as the code has
abbrev pub body_limit : EngineParts → ℕ
body_limit parts = suc parts.budget * length parts.code.instructions

-- in every run of an object of n processes over an engine, whatever the schedule and the submitted calls: the open or last call of each
-- process has taken no more own steps than the bound, and in each of at most 2n bodies what the budget pays for. Nothing is asked of the
-- calls: each ends
abbrev pub EnginesKeepTotal : Type 0
EnginesKeepTotal =
    (parts : EngineParts) (n : ℕ) (opening : List ℤ) (acts : List Act) (s : State Run) →
    (r : IsRun (code_meaning parts) (IsLawfulFor parts) (IsFitting parts.exports) (HasReserve parts) n opening acts s) →
    AllWithinLimit (sizes_of (code_meaning parts) n) (body_limit parts)
    (counted_run (code_meaning parts) (sizes_of (code_meaning parts) n) acts (counted_from r.start))
