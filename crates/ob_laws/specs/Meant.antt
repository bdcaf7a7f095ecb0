-- Merges of calls on a module's object, by what they mean by name, and the runs over compiled code that show them.
use Rattle.std.specs.Prelude.{ℕ, ℤ, List}
use Rattle.ob_meaning.specs.Resolved.{IsResolved}
use Rattle.ob_meaning.specs.Same.{SameState}
use Rattle.ob_code_correct.specs.Compiled.{parts_of, engine_of, body_limit, Fits, HasReserve, IsLawfulBlock, IsEffect}
use Rattle.ob_code_correct.specs.Named.{CallMeans}
use Rattle.ob_code_machine.specs.Body.{Run}
use Rattle.ob_code_scheme.specs.Layout.{IsEncoding}
use Rattle.ob_code_scheme.specs.WellFormed.{IsWellFormed}
use Rattle.ob_interface.specs.Call.{ObjectCall}
use Rattle.ob_meaning.specs.ByNameObject as Named
use Rattle.ob_meaning.specs.ByPositionStore.{Activation}
use Rattle.ob_typing.specs.Program.{Program}
use Rattle.wf_history.specs.declared.event.CallId.{CallId}
use Rattle.wf_history.specs.Legal.{IsLegal}
use Rattle.wf_outcomes.specs.Merges.{Leads, start, full}
use Rattle.wf_outcome_laws.specs.Shown.{ShowsOrder, scripts_in}
use Rattle.wf_table.specs.Object.{State}
use Rattle.wf_table.specs.Runs.{Act, IsRun, submissions}

module _ (program : Program) (budget n : ℕ) where
  -- acts of an object of n processes over the program's code, with the budget for each call, which begins with these words
  abbrev pub IsCodeRun : List ℤ → List Act → State Run → Type 0
  IsCodeRun = IsRun (engine_of program budget) (IsLawfulBlock program) (Fits program) (HasReserve (parts_of program budget)) n

  -- a run that shows the order: it leads to the words of the last state, and the order is a legal order of its history by what calls mean by
  -- name, from the opening to the last state
  pub record ShowsMeant (opening last : Named.State) (block : List ℤ) (acts : List Act) (s : State Run) (order : List CallId) : Type 0 where
    pub placed : Activation
    pub same : SameState program last placed
    pub words : List ℤ
    pub encodes : IsEncoding program.variables placed words
    pub shows : ShowsOrder (engine_of program budget) (IsLawfulBlock program) (Fits program) (HasReserve (parts_of program budget)) (IsEffect program budget) n (body_limit program budget) block acts s order words
    pub legal : IsLegal (CallMeans program budget) opening shows.after.records.history order last

-- Each merge of all calls of the scripts, which were submitted first, is shown, by items of no more steps than the bound on a call's own ones.
-- Nothing is asked of the calls but that they fit: each ends
abbrev pub CodeShowsMerges : Type 0
CodeShowsMerges =
    (program : Program) (budget n : ℕ) → IsWellFormed program → IsResolved program →
    (opening last : Named.State) (placed : Activation) (block : List ℤ) (calls : List (ℕ × ObjectCall)) (s : State Run) (order : List CallId) →
    SameState program opening placed → IsEncoding program.variables placed block → IsCodeRun program budget n block (submissions calls) s →
    Leads (CallMeans program budget) (scripts_in s) (start (CallMeans program budget) (scripts_in s) opening) order (full (CallMeans program budget) (scripts_in s) last) →
    ∥ ShowsMeant program budget n opening last block (submissions calls) s order ∥₁
