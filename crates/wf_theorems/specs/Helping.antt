-- What the theorems say of help and of the root.
use Rattle.std.specs.Prelude.{◌≡◌, ℕ, ◌%◌, ◌<◌, ℤ, pos, true, List, slice_get, Some, take}
use Rattle.ll_cell.specs.Cell.{is_linked, block_of}
use Rattle.wf_table.specs.declared.process.Sizes.{Sizes}
use Rattle.wf_table.specs.declared.process.Label.TheVariants as Place
use Rattle.wf_table.specs.StepTable.{Process, toggle_in}
use Rattle.wf_table.specs.Runs.{Act, IsRun}
use Rattle.wf_table.specs.Object.{State}
use Rattle.wf_table.specs.Sound.{IsSound}
use Rattle.wf_table.specs.Start.{sizes_of}
use Rattle.wf_table.specs.Order.{applied_count}
use Rattle.wf_table.specs.HelpAndOrder.{IsCommitted}
use Rattle.wf_table.specs.Contents.{RootHolds}
use Rattle.wf_table.specs.Helps.{IsHelped}
use Rattle.wf_table.specs.HelpedCalls.{ServesOpen, MakesAnother, OrderLeads}
use Rattle.wf_table.specs.Meaning.{Meaning}
use Rattle.wf_table.specs.Law.{Effects}
use Rattle.ob_interface.specs.Call.{ObjectCall}

module _ {Run : Type 0} (m : Meaning Run) (lawful : List ℤ → Type 0) (fits : ObjectCall → Type 0) (ready : Run → Type 0) where
  -- each state that a run reaches keeps what is said of help
  abbrev pub EveryRunIsHelped : Type 0
  EveryRunIsHelped =
      (n : ℕ) (opening : List ℤ) (acts : List Act) (s : State Run) → IsRun m lawful fits ready n opening acts s →
      IsHelped m lawful fits (sizes_of m n) opening s

  -- a linked process that stands at CHECK2 has the whole announcement of an open call
  abbrev pub ServesWholeCall : Type 0
  ServesWholeCall =
      (z : Sizes) (opening : List ℤ) (s : State Run) (p : ℕ) (q : Process Run) → IsSound m lawful fits ready z opening s → IsCommitted z s →
      IsHelped m lawful fits z opening s → slice_get s.processes p ≡ Some q → q.label ≡ Place.Check2 → is_linked s.cell p ≡ true →
      ServesOpen m z s p q

  -- the root holds what the order leads to
  abbrev pub EveryRootHolds : Type 0
  EveryRootHolds =
      (n : ℕ) (opening : List ℤ) (acts : List Act) (s : State Run) → IsRun m lawful fits ready n opening acts s →
      RootHolds m lawful (sizes_of m n) opening s.records.history s.records.order (block_of s.cell s.cell.root)

  -- the toggle of a process in the root is the parity of the number of its calls in the order
  abbrev pub EveryRootToggles : Type 0
  EveryRootToggles =
      (n : ℕ) (opening : List ℤ) (acts : List Act) (s : State Run) (k : ℕ) → IsRun m lawful fits ready n opening acts s → k < n →
      toggle_in (sizes_of m n) (block_of s.cell s.cell.root) k ≡ pos (applied_count s.records.order k % 2)

module _ {Run : Type 0} (m : Meaning Run) (lawful : List ℤ → Type 0) (fits : ObjectCall → Type 0) where
  -- a body that is started runs a call on what others lead to, none of them twice
  abbrev pub StartsAnother : Type 0
  StartsAnother =
      (z : Sizes) (opening : List ℤ) (s : State Run) (p : ℕ) (q : Process Run) → IsHelped m lawful fits z opening s → slice_get s.processes p ≡ Some q →
      q.label ≡ Place.Enter → MakesAnother m z s opening p q

module _ {Run : Type 0} (m : Meaning Run) (lawful : List ℤ → Type 0) (fits : ObjectCall → Type 0) (ready : Run → Type 0) (effect : Effects) where
  -- the calls of the order lead, one at a time, from the opening to the root's variables
  abbrev pub EveryOrderLeads : Type 0
  EveryOrderLeads =
      (n : ℕ) (opening : List ℤ) (acts : List Act) (s : State Run) → IsRun m lawful fits ready n opening acts s →
      OrderLeads effect opening s.records.history s.records.order (take (sizes_of m n).variables (block_of s.cell s.cell.root))
