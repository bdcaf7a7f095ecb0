-- What a call takes over an engine is what it takes over the code of a program with these parts.
use Rattle.std.proofs.Common.{ℕ, ℤ, List, sym, subst}
use Rattle.wf_table.specs.Object.{State}
use Rattle.wf_table.specs.Runs.{Act, IsRun}
use Rattle.wf_table.specs.Start.{sizes_of}
use Rattle.wf_table.specs.Counted.{counted_from, counted_run}
use Rattle.wf_table.specs.Limit.{AllWithinLimit}
use Rattle.ob_code_machine.specs.Body.{Run}
use Rattle.ob_code_correct.specs.CodeMeaning.{EngineParts, code_meaning}
use Rattle.ob_code_correct.specs.Compiled.{HasReserve, IsFitting}
use Rattle.ob_code_correct.specs.Parts.{IsLawfulFor}
use Rattle.ob_code_engine.specs.Bound.{CallsKeepTotal}
use Rattle.ob_code_engine.specs.Total.{body_limit, EnginesKeepTotal}

module _ (n : ℕ) (opening : List ℤ) (acts : List Act) (s : State Run) (lawful : List ℤ → Type 0) where
  -- a run, of which it is not said where it may begin
  abbrev Runs : EngineParts → Type 0
  Runs parts = IsRun (code_meaning parts) lawful (IsFitting parts.exports) (HasReserve parts) n opening acts s

  abbrev Keeps : EngineParts → Type 0
  Keeps parts =
      (r : Runs parts) →
      AllWithinLimit (sizes_of (code_meaning parts) n) (body_limit parts)
      (counted_run (code_meaning parts) (sizes_of (code_meaning parts) n) acts (counted_from r.start))

pub keep_total : CallsKeepTotal → EnginesKeepTotal
keep_total calls parts n opening acts s r =
    let l = r.opens in
    subst (Keeps n opening acts s (IsLawfulFor parts)) (sym l.compiled.parts_are)
    (λ q. calls l.program parts.budget n l.compiled.well opening acts s
    (record { some = q.some; few = q.few; opens = l.is; fit = q.fit; start = q.start; begins = q.begins; leads = q.leads }))
    r
