-- What every reached object keeps.
use Rattle.std.specs.Prelude.{◌≡◌, ℤ, List, length}
use Rattle.ll_cell.specs.Cell.{IsNumbered}
use Rattle.ob_interface.specs.Call.{ObjectCall}
use Rattle.wf_history.specs.History.{IsHistory}
use Rattle.wf_table.specs.declared.process.Sizes.{Sizes}
use Rattle.wf_table.specs.Meaning.{Meaning}
use Rattle.wf_table.specs.Object.{State}
use Rattle.wf_table.specs.Each.{Each}
use Rattle.wf_table.specs.Ranges.{IsSized, IsShaped, IsInRange}
use Rattle.wf_table.specs.Toggles.{AreBits, StoresBit, CountsFlips}
use Rattle.wf_table.specs.Announcements.{LaysCall}
use Rattle.wf_table.specs.Scripts.{CallsFit, TakesTurns, BeginsScript}
use Rattle.wf_table.specs.Marks.{IsMarked}
use Rattle.wf_table.specs.Below.{IsBelow}
use Rattle.wf_table.specs.Copies.{AllHoldRoot, AllCopyRoot}

-- an object of these sizes that began with this block
pub record IsSound {Run : Type 0} (m : Meaning Run) (lawful : List ℤ → Type 0) (fits : ObjectCall → Type 0) (ready : Run → Type 0) (z : Sizes) (opening : List ℤ) (s : State Run) : Type 0 where
  pub opens : lawful opening
  -- sizes and ranges
  pub sized : IsSized z
  pub variables : z.variables ≡ m.variables
  pub replies : z.replies ≡ m.replies
  pub arguments : z.arguments ≡ m.arguments
  pub count : length s.processes ≡ z.processes
  pub shaped : IsShaped z s.cell
  pub numbered : IsNumbered s.cell.root s.cell.own
  pub in_range : Each (λ _ q. IsInRange z q) s.processes
  pub below : IsBelow z.processes s.records
  -- what the engine's methods ask
  pub calls_fit : Each (λ _ q. CallsFit fits q) s.processes
  pub runs_ready : Each (λ _ q. ready q.run) s.processes
  -- toggles
  pub bits : AreBits z s.cell
  pub stores_bit : Each (λ _ q. StoresBit z q) s.processes
  pub flip_parity : Each (λ p q. CountsFlips z s.cell p q) s.processes
  -- announcements
  pub laid_words : Each (λ p q. LaysCall m z s.cell p q) s.processes
  -- events
  pub own_events : Each (λ p q. TakesTurns s.records.history p q) s.processes
  pub own_calls : Each (λ p q. BeginsScript s.records.history p q) s.processes
  pub in_turn : IsHistory s.records.history
  pub marks : IsMarked z s.cell.root s.records
  -- copies
  pub links : Each (AllHoldRoot s.cell) s.processes
  pub fronts : Each (AllCopyRoot s.cell) s.processes
