-- What the theorems say of own steps.
use Rattle.std.specs.Prelude.{◌≡◌, ℕ, ◌<◌, ◌≤◌, ℤ, List, false, ◌++◌}
use Rattle.ob_interface.specs.Call.{ObjectCall}
use Rattle.ll_cell.specs.Cell.{Cell}
use Rattle.wf_history.specs.declared.event.CallId.{CallId}
use Rattle.wf_table.specs.declared.engine_turn.EngineTurn.TheVariants as Turn
use Rattle.wf_table.specs.declared.process.Label.TheVariants as At
use Rattle.wf_table.specs.declared.process.Sizes.{Sizes}
use Rattle.wf_table.specs.Labels.{at_next, at_body}
use Rattle.wf_table.specs.Meaning.{body}
use Rattle.wf_table.specs.Object.{State, script_of}
use Rattle.wf_table.specs.Ranges.{IsSized, IsInRange}
use Rattle.wf_table.specs.Runs.{Act, IsRun, run}
use Rattle.wf_table.specs.Start.{sizes_of}
use Rattle.wf_table.specs.StepTable.{Process, row}
use Rattle.wf_table.specs.Counted.{counted_from, counted_run, counts_of}
use Rattle.wf_table.specs.Ends.{AllEndWithin, IsCallOf, IsReachedWithout}
use Rattle.wf_table.specs.Left.{left_to}
use Rattle.wf_table.specs.Limit.{AllWithinLimit, StaysBelow, AllSumBodies, IsWithinLimit}
use Rattle.wf_table.specs.Meaning.{Meaning}
use Rattle.wf_table.specs.Law.{Effects}
use Rattle.wf_table.specs.Bound.{AllInRounds, AllWithinBound, IsWithinBound}
use Rattle.wf_table.specs.Calls.{BeginsOne, own_spent}

module _ {Run : Type 0} (m : Meaning Run) where
  -- an own step of an open call outside bodies leaves fewer such steps
  abbrev pub StepsLeaveFewer : Type 0
  StepsLeaveFewer =
      (z : Sizes) (c : Cell) (p : ℕ) (q : Process Run) → IsSized z → IsInRange z q → at_next q.label ≡ false → at_body q.label ≡ false →
      left_to z (row q.label m z c p q).process < left_to z q

  -- a step of a body leaves no more of them
  abbrev pub BodiesLeaveNoMore : Type 0
  BodiesLeaveNoMore = (z : Sizes) (c : Cell) (p : ℕ) (q : Process Run) → q.label ≡ At.Body → left_to z (row q.label m z c p q).process ≤ left_to z q

  -- a run whose own steps are counted is the same run
  abbrev pub CountedRunIsRun : Type 0
  CountedRunIsRun = (z : Sizes) (start : State Run) (acts : List Act) → (counted_run m z acts (counted_from start)).state ≡ run m z acts start

  -- the own steps of one call, read off the acts, are what is counted
  abbrev pub OwnStepsAreCounted : Type 0
  OwnStepsAreCounted =
      (z : Sizes) (start : State Run) (first acts : List Act) (p : ℕ) (last : Process Run) → BeginsOne m z p acts (run m z first start) last →
      own_spent m z p acts (run m z first start) ≡ (counts_of (counted_run m z (first ++ acts) (counted_from start)).counts p).spent

module _ {Run : Type 0} (m : Meaning Run) (lawful : List ℤ → Type 0) (fits : ObjectCall → Type 0) (ready : Run → Type 0) where
  -- where no body of a run takes a step behind a limit, no call takes more own steps than that allows
  abbrev pub EveryRunIsLimited : Type 0
  EveryRunIsLimited =
      (n limit : ℕ) (opening : List ℤ) (acts : List Act) (s : State Run) → (r : IsRun m lawful fits ready n opening acts s) →
      StaysBelow limit m (sizes_of m n) acts (counted_from r.start) →
      AllWithinLimit (sizes_of m n) limit (counted_run m (sizes_of m n) acts (counted_from r.start))

  -- no call of a run takes more own steps outside bodies than is promised
  abbrev pub EveryRunIsWithinBound : Type 0
  EveryRunIsWithinBound =
      (n : ℕ) (opening : List ℤ) (acts : List Act) (s : State Run) → (r : IsRun m lawful fits ready n opening acts s) →
      AllWithinBound (sizes_of m n) (counted_run m (sizes_of m n) acts (counted_from r.start))

  -- each call of a run is in at most two rounds
  abbrev pub EveryRunIsInRounds : Type 0
  EveryRunIsInRounds =
      (n : ℕ) (opening : List ℤ) (acts : List Act) (s : State Run) → (r : IsRun m lawful fits ready n opening acts s) →
      AllInRounds (counted_run m (sizes_of m n) acts (counted_from r.start))

  -- what a call of a run has taken in bodies is the sum over the bodies that it has begun
  abbrev pub EveryRunSumsBodies : Type 0
  EveryRunSumsBodies =
      (n : ℕ) (opening : List ℤ) (acts : List Act) (s : State Run) → (r : IsRun m lawful fits ready n opening acts s) →
      AllSumBodies (counted_run m (sizes_of m n) acts (counted_from r.start))

  -- the own steps of one call, read off the acts, are no more than is promised
  abbrev pub OwnStepsAreWithinBound : Type 0
  OwnStepsAreWithinBound =
      (n : ℕ) (opening : List ℤ) (first acts : List Act) (s : State Run) (p : ℕ) (last : Process Run) →
      (r : IsRun m lawful fits ready n opening (first ++ acts) s) → BeginsOne m (sizes_of m n) p acts (run m (sizes_of m n) first r.start) last →
      IsWithinBound (sizes_of m n) (own_spent m (sizes_of m n) p acts (run m (sizes_of m n) first r.start)) last

  -- where no body of the run takes a step behind a limit, they are no more than that allows
  abbrev pub OwnStepsAreLimited : Type 0
  OwnStepsAreLimited =
      (n limit : ℕ) (opening : List ℤ) (first acts : List Act) (s : State Run) (p : ℕ) (last : Process Run) →
      (r : IsRun m lawful fits ready n opening (first ++ acts) s) → StaysBelow limit m (sizes_of m n) (first ++ acts) (counted_from r.start) →
      BeginsOne m (sizes_of m n) p acts (run m (sizes_of m n) first r.start) last →
      IsWithinLimit (sizes_of m n) limit (own_spent m (sizes_of m n) p acts (run m (sizes_of m n) first r.start))

module _ {Run : Type 0} (m : Meaning Run) (effect : Effects) where
  -- where all calls end within a limit, a body on a block that is reached without its call takes no step behind it
  abbrev pub BodiesKeepLimit : Type 0
  BodiesKeepLimit =
      (scripts : ℕ → List ObjectCall) (opening block : List ℤ) (id : CallId) (call : ObjectCall) (limit k : ℕ) →
      AllEndWithin m effect scripts opening limit → IsCallOf scripts id call → IsReachedWithout effect scripts opening id block →
      (body m k block call).turn ≡ Turn.On → k < limit

module _ {Run : Type 0} (m : Meaning Run) (lawful : List ℤ → Type 0) (fits : ObjectCall → Type 0) (ready : Run → Type 0) (effect : Effects) where
  -- where all calls of a run end within a limit, no body takes a step behind it
  abbrev pub EveryRunStaysBelow : Type 0
  EveryRunStaysBelow =
      (n limit : ℕ) (opening : List ℤ) (acts : List Act) (s : State Run) → (r : IsRun m lawful fits ready n opening acts s) →
      AllEndWithin m effect (script_of s) opening limit → StaysBelow limit m (sizes_of m n) acts (counted_from r.start)

  -- where all calls of a run end within a limit, no call takes more own steps than that allows
  abbrev pub EveryRunEndsWithin : Type 0
  EveryRunEndsWithin =
      (n limit : ℕ) (opening : List ℤ) (acts : List Act) (s : State Run) → (r : IsRun m lawful fits ready n opening acts s) →
      AllEndWithin m effect (script_of s) opening limit →
      AllWithinLimit (sizes_of m n) limit (counted_run m (sizes_of m n) acts (counted_from r.start))
