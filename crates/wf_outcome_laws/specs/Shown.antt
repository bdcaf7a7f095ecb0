-- Runs of the machine that show a merge: the calls of the scripts run alone on it, one after the other, in the merge's order.
use Rattle.std.specs.Prelude.{◌≡◌, ℕ, ◌+◌, ◌*◌, ℤ, List, ◌++◌, map, take}
use Rattle.ob_interface.specs.Call.{ObjectCall}
use Rattle.ob_text_words.specs.declared.item.Item.{Item}
use Rattle.ob_text_words.specs.declared.item.Item.TheVariants as Items
use Rattle.ll_cell.specs.Cell.{block_of}
use Rattle.wf_table.specs.Bound.{bound}
use Rattle.wf_table.specs.Ends.{AllEndWithin}
use Rattle.wf_history.specs.declared.event.CallId.{CallId}
use Rattle.wf_outcome_laws.specs.ScriptRuns.{IsRunAlone}
use Rattle.wf_outcomes.specs.Merges.{Leads, start, full}
use Rattle.wf_play.specs.ItemSteps.{AreItemSteps}
use Rattle.wf_table.specs.declared.process.Sizes.{Sizes}
use Rattle.wf_table.specs.Law.{Effects}
use Rattle.wf_table.specs.Meaning.{Meaning}
use Rattle.wf_table.specs.Object.{State, script_of}
use Rattle.wf_table.specs.Runs.{Act, IsRun, submissions, turns}
use Rattle.wf_table.specs.Start.{sizes_of}

-- the scripts of an object's processes, as they were submitted
abbrev pub scripts_in : {Run : Type 0} → State Run → List (List ObjectCall)
scripts_in s = map (λ q. q.calls) s.processes

-- for each of these calls, in their order, the item p! of its process: p steps until it answers
abbrev pub answers : List CallId → List Item
answers order = map (λ id. Items.ToAnswer id.process) order

-- the most own steps of a call, where bodies end within a limit
abbrev pub most_own : Sizes → (limit : ℕ) → ℕ
most_own z limit = bound z + 2 * z.processes * limit

module _ {Run : Type 0} (m : Meaning Run) (lawful : List ℤ → Type 0) (fits : ObjectCall → Type 0) (ready : Run → Type 0) (effect : Effects) where
  -- from a state to which acts have led, a run that shows the order: its steps are those for which the items p! stand, so many of the
  -- process of each call of the order, one call after the other. In the history each call begins, is applied and ends before the next one begins, in
  -- this order, with the replies that it has in it. The machine's own order is this one, and its variables are those of the last block
  pub record ShowsOrder (n limit : ℕ) (opening : List ℤ) (acts : List Act) (s : State Run) (order : List CallId) (last : List ℤ) : Type 0 where
    pub steps : List ℕ
    pub after : State Run
    pub items : AreItemSteps m (sizes_of m n) (most_own (sizes_of m n) limit) (answers order) s steps after
    pub run : IsRun m lawful fits ready n opening (acts ++ turns steps) after
    pub alone : IsRunAlone effect (scripts_in s) opening order last after.records.history
    pub same_order : after.records.order ≡ order
    pub variables : take m.variables (block_of after.cell after.cell.root) ≡ last

  -- where all calls are submitted first, and each ends within a limit wherever others may have led, each merge of them all is shown
  abbrev pub EveryMergeIsShown : Type 0
  EveryMergeIsShown =
      (n limit : ℕ) (opening last : List ℤ) (calls : List (ℕ × ObjectCall)) (s : State Run) (order : List CallId) →
      IsRun m lawful fits ready n opening (submissions calls) s → AllEndWithin m effect (script_of s) opening limit →
      Leads effect (scripts_in s) (start effect (scripts_in s) opening) order (full effect (scripts_in s) last) →
      ∥ ShowsOrder n limit opening (submissions calls) s order last ∥₁
