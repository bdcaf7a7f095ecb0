-- The engine that is behind a block on which it may begin, and runs over it.
use Rattle.std.proofs.Common.{ℕ, List, refl}
use Rattle.std.specs.Prelude.{ℤ}
use Rattle.ob_typing.specs.Program.{Variable}
use Rattle.ob_code_engine.specs.CodeEngine.{CompiledParts}
use Rattle.ob_code_machine.specs.Body.{Run}
use Rattle.ob_code_correct.specs.CodeMeaning.{EngineParts, code_meaning}
use Rattle.ob_code_correct.specs.Compiled.{HasReserve, IsFitting}
use Rattle.ob_code_correct.specs.Parts.{IsLawfulFor}
use Rattle.ob_object_run.specs.Recorded.{IsObject}
use Rattle.wf_table.specs.Object.{State}
use Rattle.wf_table.specs.Runs.{Act, ActsFit, IsRun, run}
use Rattle.wf_table.specs.Start.{sizes_of}

abbrev pub engine_in : (parts : EngineParts) (block : List ℤ) → IsLawfulFor parts block → CompiledParts
engine_in parts block l = record { parts = parts; compiled = ∣ (l.program, l.compiled) ∣₁ }

module _ (parts : EngineParts) (n : ℕ) (block : List ℤ) where
  abbrev Runs : List Act → State Run → Type 0
  Runs acts s = IsRun (code_meaning parts) (IsLawfulFor parts) (IsFitting parts.exports) (HasReserve parts) n block acts s

  -- from where a run begins, other acts that fit are a run
  abbrev pub reached : (all : List Act) (s : State Run) (runs : Runs all s) (acts : List Act) → ActsFit (IsFitting parts.exports) acts → Runs acts (run (code_meaning parts) (sizes_of (code_meaning parts) n) acts runs.start)
  reached all s runs acts fit = record { some = runs.some; few = runs.few; opens = runs.opens; fit = fit; start = runs.start; begins = runs.begins; leads = refl }

-- an object over an engine may begin with its block
pub may_begin : (variables : List Variable) (parts : EngineParts) (block : List ℤ) → IsObject variables parts block → IsLawfulFor parts block
may_begin variables parts block o = record { program = o.program; compiled = o.is.compiled; is = record { state = o.opening; encodes = o.is.encodes } }
