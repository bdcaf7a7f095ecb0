-- What the theorems say of commits.
use Rattle.std.specs.Prelude.{◌≡◌, ℕ, ◌<◌, ◌≤◌, ℤ, true, false, List, ◌∷◌, ◌++◌, drop, slice_get, slice_index, Some, Contains}
use Rattle.ll_cell.specs.Cell.{is_linked}
use Rattle.ob_interface.specs.Call.{Reply}
use Rattle.wf_history.specs.declared.event.CallId.{CallId}
use Rattle.wf_history.specs.History.{End, Before}
use Rattle.wf_table.specs.declared.process.Sizes.{Sizes}
use Rattle.wf_table.specs.declared.process.Label.TheVariants as Place
use Rattle.wf_table.specs.StepTable.{Process, announced_toggle, open_call}
use Rattle.wf_table.specs.Runs.{Act, IsRun}
use Rattle.wf_table.specs.Object.{State, step_of, label_of}
use Rattle.wf_table.specs.Labels.{at_next}
use Rattle.wf_table.specs.Sound.{IsSound}
use Rattle.wf_table.specs.Start.{sizes_of}
use Rattle.wf_table.specs.Helping.{IsNewer}
use Rattle.wf_table.specs.Fetched.{ServesCall}
use Rattle.wf_table.specs.HelpAndOrder.{IsCommitted, announced_call, flips_at, own_toggles, standing}
use Rattle.wf_table.specs.Order.{exchanges_in}
use Rattle.wf_table.specs.Meaning.{Meaning}
use Rattle.ob_interface.specs.Call.{ObjectCall}

module _ {Run : Type 0} (m : Meaning Run) (lawful : List ℤ → Type 0) (fits : ObjectCall → Type 0) (ready : Run → Type 0) where
  -- each state that a run reaches keeps what is said of commits
  abbrev pub EveryRunIsCommitted : Type 0
  EveryRunIsCommitted =
      (n : ℕ) (opening : List ℤ) (acts : List Act) (s : State Run) → IsRun m lawful fits ready n opening acts s → IsCommitted (sizes_of m n) s

  -- an exchange by process p puts its own call in the order
  abbrev pub ExchangePutsOwn : Type 0
  ExchangePutsOwn =
      (z : Sizes) (opening : List ℤ) (s : State Run) (p : ℕ) → IsSound m lawful fits ready z opening s → IsCommitted z s → label_of s p ≡ Place.Commit →
      is_linked s.cell p ≡ true → Contains (step_of m z s p).records.order (announced_call s.processes p)

  -- an exchange by process p puts the call of process k in the order, if that was announced before the last exchange
  abbrev pub ExchangePutsOlder : Type 0
  ExchangePutsOlder =
      (z : Sizes) (opening : List ℤ) (s : State Run) (p k : ℕ) → IsSound m lawful fits ready z opening s → IsCommitted z s →
      label_of s p ≡ Place.Commit → is_linked s.cell p ≡ true → k < z.processes → 0 < flips_at s.processes k →
      IsNewer (standing z s.cell s.processes s.records) k → Contains (step_of m z s p).records.order (announced_call s.processes k)

  -- a process that has lost two rounds finds its own call in the order
  abbrev pub TwoRoundsPut : Type 0
  TwoRoundsPut =
      (z : Sizes) (opening : List ℤ) (s : State Run) (p : ℕ) (q : Process Run) → IsSound m lawful fits ready z opening s → IsCommitted z s →
      slice_get s.processes p ≡ Some q → q.label ≡ Place.Try → q.registers.round ≡ 2 → Contains s.records.order (announced_call s.processes p)

  -- a process that serves a call has the whole announcement of it
  abbrev pub ServedIsWhole : Type 0
  ServedIsWhole =
      (z : Sizes) (opening : List ℤ) (s : State Run) (p : ℕ) (q o : Process Run) → IsSound m lawful fits ready z opening s → IsCommitted z s →
      ServesCall s p q o → q.list ≡ m.lay (open_call o)

  -- the process of a served call has not ended it
  abbrev pub ServedIsOpen : Type 0
  ServedIsOpen =
      (z : Sizes) (opening : List ℤ) (s : State Run) (p : ℕ) (q o : Process Run) → IsSound m lawful fits ready z opening s → IsCommitted z s →
      ServesCall s p q o → at_next o.label ≡ false

  -- a served call is not in the order
  abbrev pub ServedIsNew : Type 0
  ServedIsNew =
      (z : Sizes) (opening : List ℤ) (s : State Run) (p : ℕ) (q o : Process Run) → IsSound m lawful fits ready z opening s → IsCommitted z s →
      ServesCall s p q o → ¬ Contains s.records.order (record { process = q.registers.j; number = o.begun })

  -- in the own block of who serves a call its toggle differs from the announced one
  abbrev pub ServedIsWanted : Type 0
  ServedIsWanted =
      (z : Sizes) (opening : List ℤ) (s : State Run) (p : ℕ) (q o : Process Run) → IsSound m lawful fits ready z opening s → IsCommitted z s →
      ServesCall s p q o → ¬ (own_toggles z s.cell p q.registers.j ≡ announced_toggle z s.cell q.registers.j)

module _ {Run : Type 0} (z : Sizes) (s : State Run) (k : ℕ) where
  -- an announced call after whose FLIP two exchanges came is in the order
  abbrev pub TwoExchangesPut : Type 0
  TwoExchangesPut =
      IsCommitted z s → k < z.processes → 0 < flips_at s.processes k → 1 < exchanges_in (drop (slice_index s.records.flip_marks k) s.records.history) →
      Contains s.records.order (announced_call s.processes k)

module _ {Run : Type 0} (z : Sizes) (s : State Run) (id : CallId) where
  -- each call of the order was announced by a process of the object
  abbrev pub OrderWasAnnounced : Type 0
  OrderWasAnnounced =
      IsCommitted z s → Contains s.records.order id → (id.process < z.processes) × (0 < id.number) × (id.number ≤ flips_at s.processes id.process)

module _ {Run : Type 0} (z : Sizes) (s : State Run) (id : CallId) (reply : Reply) where
  -- each call that ended is in the order
  abbrev pub EndedIsInOrder : Type 0
  EndedIsInOrder = IsCommitted z s → Contains s.records.history (End id reply) → Contains s.records.order id

module _ {Run : Type 0} (z : Sizes) (s : State Run) where
  -- of two calls of the order the later one did not end before the earlier one began
  abbrev pub OrderIsInTime : Type 0
  OrderIsInTime =
      (first second third : List CallId) (a b : CallId) → IsCommitted z s → s.records.order ≡ first ++ a ∷ (second ++ b ∷ third) →
      ¬ Before s.records.history b a
