-- What the theorems say of bodies and of single steps.
use Rattle.std.specs.Prelude.{◌≡◌, ℕ, ◌<◌, ◌≤◌, ℤ, List, Some, length, slice_get}
use Rattle.ob_interface.specs.declared.scalar.Scalar.{Scalar}
use Rattle.ob_interface.specs.Call.{ObjectCall, Reply, Answers, Trapped}
use Rattle.ll_cell.specs.Cell.{block_of}
use Rattle.wf_history.specs.declared.event.CallId.{CallId}
use Rattle.wf_history.specs.History.{Event}
use Rattle.wf_history.specs.Legal.{HasBegun, OneAtATime}
use Rattle.wf_table.specs.declared.process.Sizes.{Sizes}
use Rattle.wf_table.specs.declared.process.Label.TheVariants as At
use Rattle.wf_table.specs.declared.engine_turn.EngineTurn.TheVariants as Turn
use Rattle.wf_table.specs.Meaning.{body}
use Rattle.wf_table.specs.Law.{Reaches, ReachesTrap}
use Rattle.wf_table.specs.TableAlone.{EndsAlone}
use Rattle.wf_table.specs.StepTable.{Process, own_block, body_turn}
use Rattle.wf_table.specs.Object.{State, step_of, stepped, label_of}
use Rattle.wf_table.specs.Schedule.{counted}
use Rattle.wf_table.specs.Start.{sizes_of}
use Rattle.wf_table.specs.Runs.{Act, IsRun, performed}
use Rattle.wf_table.specs.Sound.{IsSound}
use Rattle.wf_theorems.specs.PresentBodies.{IsNeverStuck}
use Rattle.wf_table.specs.Meaning.{Meaning}
use Rattle.wf_table.specs.Law.{Effects}

module _ {Run : Type 0} (m : Meaning Run) (lawful : List ℤ → Type 0) (fits : ObjectCall → Type 0) (effect : Effects) where
  -- the steps of a call whose effect is a return reach it
  abbrev pub EffectsAreReturned : Type 0
  EffectsAreReturned =
      (block after : List ℤ) (call : ObjectCall) (values : List Scalar) → lawful block → fits call → effect call block after (Answers values) →
      Reaches m block call after values

  -- the steps of a call whose effect is a trap reach it
  abbrev pub EffectsAreTrapped : Type 0
  EffectsAreTrapped =
      (block after : List ℤ) (call : ObjectCall) (k : ℕ) → lawful block → fits call → effect call block after (Trapped k) →
      ReachesTrap m block call after k

  -- a body that has returned has the effect of its call
  abbrev pub ReturnsAreEffects : Type 0
  ReturnsAreEffects =
      (block : List ℤ) (call : ObjectCall) (n : ℕ) → lawful block → fits call → (body m n block call).turn ≡ Turn.Returned →
      (values : List Scalar) × ∥ effect call block (body m n block call).block (Answers values) ∥₁

  -- a body that has trapped has the effect of its call, and no trap is 0
  abbrev pub TrapsAreEffects : Type 0
  TrapsAreEffects =
      (block : List ℤ) (call : ObjectCall) (n k : ℕ) → lawful block → fits call → (body m n block call).turn ≡ Turn.Trapped k →
      (0 < k) × ∥ effect call block block (Trapped k) ∥₁

  -- a call that has ended, made alone, has had its effect
  abbrev pub EndsAreEffects : Type 0
  EndsAreEffects =
      (call : ObjectCall) (before after words : List ℤ) → lawful before → fits call → EndsAlone m call before after words →
      ∥ effect call before after (m.reply call words) ∥₁

  -- calls of a history that their bodies make one at a time are made one at a time by their effects
  abbrev pub EndsLeadOn : Type 0
  EndsLeadOn =
      (history : List (Event ObjectCall Reply)) (before after : List ℤ) (ids : List CallId) (answers : List (List ℤ)) →
      ((id : CallId) (call : ObjectCall) → HasBegun history id call → fits call) → lawful before →
      OneAtATime (HasBegun history) (EndsAlone m) before ids answers after →
      ∥ ((replies : List Reply) × OneAtATime (HasBegun history) effect before ids replies after) ∥₁

module _ {Run : Type 0} (m : Meaning Run) (lawful : List ℤ → Type 0) (fits : ObjectCall → Type 0) where
  -- no body of a fitting call on a lawful block is stuck
  abbrev pub NoBodyIsStuck : Type 0
  NoBodyIsStuck = (block : List ℤ) (call : ObjectCall) (n : ℕ) → lawful block → fits call → ¬ ((body m n block call).turn ≡ Turn.Stuck)

module _ (lawful : List ℤ → Type 0) (fits : ObjectCall → Type 0) (effect : Effects) where
  -- a call has one effect at most
  abbrev pub EffectsAreOne : Type 0
  EffectsAreOne =
      (block after other : List ℤ) (call : ObjectCall) (reply another : Reply) → lawful block → fits call → effect call block after reply →
      effect call block other another → (after ≡ other) × (reply ≡ another)

module _ {Run : Type 0} (m : Meaning Run) (lawful : List ℤ → Type 0) (fits : ObjectCall → Type 0) (ready : Run → Type 0) where
  -- a step from CHECK1 to MINE finds the whole own block equal to the root
  abbrev pub CopiesAreRoots : Type 0
  CopiesAreRoots =
      (z : Sizes) (opening : List ℤ) (s : State Run) (p : ℕ) → IsSound m lawful fits ready z opening s → label_of s p ≡ At.Check1 →
      label_of (step_of m z s p) p ≡ At.Mine → own_block s.cell p ≡ block_of s.cell s.cell.root

  -- the next step of a body at which a process of a run stands is not stuck
  abbrev pub EveryRunIsNeverStuck : Type 0
  EveryRunIsNeverStuck =
      (n : ℕ) (opening : List ℤ) (acts : List Act) (s : State Run) → IsRun m lawful fits ready n opening acts s → IsNeverStuck m (sizes_of m n) s

  -- a step of a stuck body changes neither the cell nor a process
  abbrev pub StuckChangesNothing : Type 0
  StuckChangesNothing =
      (z : Sizes) (opening : List ℤ) (s : State Run) (p : ℕ) (q : Process Run) → IsSound m lawful fits ready z opening s →
      slice_get s.processes p ≡ Some q → q.label ≡ At.Body → (body_turn m z s.cell p q).turn ≡ Turn.Stuck →
      ((stepped m z s p q).cell ≡ s.cell) × ((stepped m z s p q).processes ≡ s.processes)

  -- each state that a run reaches keeps what an object has
  abbrev pub EveryRunIsSound : Type 0
  EveryRunIsSound =
      (n : ℕ) (opening : List ℤ) (acts : List Act) (s : State Run) → IsRun m lawful fits ready n opening acts s →
      IsSound m lawful fits ready (sizes_of m n) opening s

  -- a run by scripts, all submitted first, and its own schedule goes on with a step of one more process
  abbrev pub EveryRunGoesOn : Type 0
  EveryRunGoesOn =
      (n : ℕ) (opening : List ℤ) (scripts : List (ℕ × ObjectCall)) (s : State Run) (p : ℕ) → p < n →
      IsRun m lawful fits ready n opening (performed scripts s.records.schedule) s →
      IsRun m lawful fits ready n opening (performed scripts (step_of m (sizes_of m n) s p).records.schedule) (step_of m (sizes_of m n) s p)

module _ {Run : Type 0} (m : Meaning Run) where
  -- a step of a process that has no call left changes the schedule alone
  abbrev pub HaltedIsCounted : Type 0
  HaltedIsCounted =
      (z : Sizes) (s : State Run) (p : ℕ) (q : Process Run) → slice_get s.processes p ≡ Some q → q.label ≡ At.Next → length q.calls ≤ q.begun →
      step_of m z s p ≡ record s { records = record s.records { schedule = counted s.records.schedule p } }

  -- a call that is made alone ends in one way
  abbrev pub EndsAreOne : Type 0
  EndsAreOne =
      (call : ObjectCall) (before after other words others : List ℤ) → EndsAlone m call before after words → EndsAlone m call before other others →
      (after ≡ other) × (words ≡ others)
