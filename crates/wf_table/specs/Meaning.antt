-- What an engine does to one block, apart from any wrapper.
use Rattle.std.specs.Prelude.{ℕ, zero, suc, Bool, true, false, ℤ, pos, List, [], ◌∷◌, map, replicate}
use Rattle.std.specs.List.{range_with_len}
use Rattle.ob_interface.specs.declared.scalar.Scalar.{Scalar}
use Rattle.ob_interface.specs.Call.{ObjectCall, Reply, Answers, Trapped as TrapReply}
use Rattle.wf_table.specs.declared.engine_turn.EngineTurn.{EngineTurn}
use Rattle.wf_table.specs.declared.engine_turn.EngineTurn.TheVariants.{On, Returned, Trapped, Stuck}

-- a step's answer, with the run and the block that it leaves
pub record Turned (Run : Type 0) : Type 0 where
  pub turn : EngineTurn
  pub run : Run
  pub block : List ℤ

pub record Meaning (Run : Type 0) : Type 0 where
  pub variables : ℕ  -- words of a block
  pub replies : ℕ  -- words of results
  pub arguments : ℕ  -- words of an announced call
  pub lay : ObjectCall → List ℤ
  pub start : List ℤ → Run
  pub step : Run → List ℤ → Turned Run
  pub result : Run → ℕ → ℤ
  pub reply : ObjectCall → List ℤ → Reply

-- going on only after On
abbrev pub after_turn : {Run : Type 0} → EngineTurn → Turned Run → Turned Run → Turned Run
after_turn On t next = next
after_turn Returned t next = t
after_turn (Trapped k) t next = t
after_turn Stuck t next = t

-- the body is over
abbrev pub is_over : EngineTurn → Bool
is_over On = false
is_over _ = true

-- where the body stands after at most that many steps
abbrev pub steps : {Run : Type 0} → Meaning Run → ℕ → Run → List ℤ → Turned Run
steps m zero run block = record { turn = On; run = run; block = block }
steps m (suc k) run block = after_turn (m.step run block).turn (m.step run block) (steps m k (m.step run block).run (m.step run block).block)

-- the body of a call on a block, so far
abbrev pub body : {Run : Type 0} → Meaning Run → ℕ → List ℤ → ObjectCall → Turned Run
body m k block call = steps m k (m.start (m.lay call)) block

-- what the wrapper keeps of a body that returned: status 0 and the results
abbrev pub kept : {Run : Type 0} → Meaning Run → Run → List ℤ
kept m run = pos 0 ∷ map (m.result run) (range_with_len 0 m.replies)

-- what the wrapper keeps of a body that trapped: the trap's number, and no results
abbrev pub kept_trap : {Run : Type 0} → Meaning Run → ℕ → List ℤ
kept_trap m k = pos k ∷ replicate m.replies (pos 0)

-- the values of a reply; a trap has none
abbrev pub values_in : Reply → List Scalar
values_in (Answers values) = values
values_in (TrapReply k) = []
