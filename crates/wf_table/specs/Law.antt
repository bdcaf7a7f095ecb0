-- The law that an engine meets: its steps lead to the effect of each call.
use Rattle.std.specs.Prelude.{◌≡◌, ◌≢◌, ℕ, ◌+◌, ◌<◌, ◌≤◌, ◌^◌, ℤ, pos, List, length, slice_set}
use Rattle.ll_cell.specs.Cell.{word_at}
use Rattle.ob_interface.specs.declared.scalar.Scalar.{Scalar}
use Rattle.ob_interface.specs.Call.{ObjectCall, Reply, Answers, Trapped as TrapReply}
use Rattle.wf_table.specs.declared.engine_turn.EngineTurn.TheVariants.{Returned, Trapped, Stuck}
use Rattle.wf_table.specs.Meaning.{Turned, Meaning, body, kept, kept_trap, values_in}

-- the effect of a call, made alone on the first block: the second block and the reply
abbrev pub Effects : Type 1
Effects = ObjectCall → List ℤ → List ℤ → Reply → Type 0

-- a body that stands so has returned what the call's effect says
pub record HasReturned {Run : Type 0} (m : Meaning Run) (Effect : Effects) (block : List ℤ) (call : ObjectCall) (t : Turned Run) : Type 0 where
  pub values : List Scalar
  pub effect : ∥ Effect call block t.block (Answers values) ∥₁
  pub reply : m.reply call (kept m t.run) ≡ Answers values
  -- words of results that the call doesn't have are 0
  pub rest : (i : ℕ) → length values ≤ i → i < m.replies → m.result t.run i ≡ pos 0

-- a body that traps so does what the call's effect says: the block is the old one. No trap is 0, the status of a return
pub record HasTrapped {Run : Type 0} (m : Meaning Run) (Effect : Effects) (block : List ℤ) (call : ObjectCall) (k : ℕ) : Type 0 where
  pub number : 0 < k
  pub effect : ∥ Effect call block block (TrapReply k) ∥₁
  pub reply : m.reply call (kept_trap m k) ≡ TrapReply k

-- the steps from the start reach this block and return these values
pub record Reaches {Run : Type 0} (m : Meaning Run) (block : List ℤ) (call : ObjectCall) (after : List ℤ) (values : List Scalar) : Type 0 where
  pub count : ℕ
  pub turn : (body m count block call).turn ≡ Returned
  pub block_is : (body m count block call).block ≡ after
  pub reply : m.reply call (kept m (body m count block call).run) ≡ Answers values

-- the steps from the start reach this trap, which leaves the block as it was
pub record ReachesTrap {Run : Type 0} (m : Meaning Run) (block : List ℤ) (call : ObjectCall) (after : List ℤ) (k : ℕ) : Type 0 where
  pub count : ℕ
  pub turn : (body m count block call).turn ≡ Trapped k
  pub block_is : block ≡ after
  pub reply : m.reply call (kept_trap m k) ≡ TrapReply k

-- of the block a step of a body reads and writes at most the word at one place, none where the block ends before it: on each block of as
-- many words that has the same word there it answers the same and leaves the same run, and all words of that block but this one
pub record TouchesOneWord {Run : Type 0} (m : Meaning Run) (run : Run) (block : List ℤ) : Type 0 where
  pub place : ℕ
  pub same : (other : List ℤ) → length other ≡ length block → word_at other place ≡ word_at block place →
      m.step run other ≡ record { turn = (m.step run block).turn; run = (m.step run block).run; block = slice_set other place (word_at (m.step run block).block place) }

-- lawful blocks, calls that fit, runs that are ready for this engine, and the effect
pub record IsLawful {Run : Type 0} (m : Meaning Run) (lawful : List ℤ → Type 0) (fits : ObjectCall → Type 0) (ready : Run → Type 0) (Effect : Effects) : Type 0 where
  -- numbers of words
  pub has_argument : 0 < m.arguments
  pub few_variables : m.variables < 2 ^ 32
  pub few_replies : m.replies < 2 ^ 32
  pub few_arguments : m.arguments < 2 ^ 32
  pub length_lay : (c : ObjectCall) → fits c → length (m.lay c) ≡ m.arguments
  pub length_step : (r : Run) (b : List ℤ) → ready r → length b ≡ m.variables → length (m.step r b).block ≡ length b
  pub length_lawful : (b : List ℤ) → lawful b → length b ≡ m.variables
  -- a reply can be copied without taking memory
  pub few_values : (c : ObjectCall) (words : List ℤ) → fits c → length words ≡ m.replies + 1 → length (values_in (m.reply c words)) ≤ 8
  -- runs stay ready
  pub start_ready : (words : List ℤ) → length words ≡ m.arguments → ready (m.start words)
  pub step_ready : (r : Run) (b : List ℤ) → ready r → length b ≡ m.variables → ready (m.step r b).run
  -- Stuck changes nothing
  pub stuck_run : (r : Run) (b : List ℤ) → ready r → length b ≡ m.variables → (m.step r b).turn ≡ Stuck → (m.step r b).run ≡ r
  pub stuck_block : (r : Run) (b : List ℤ) → ready r → length b ≡ m.variables → (m.step r b).turn ≡ Stuck → (m.step r b).block ≡ b
  -- a step touches one word of the block
  pub one_word : (r : Run) (b : List ℤ) → ready r → length b ≡ m.variables → TouchesOneWord m r b
  -- calls keep blocks lawful
  pub effect_lawful : (b : List ℤ) (c : ObjectCall) (b' : List ℤ) (a : Reply) → lawful b → fits c → Effect c b b' a → lawful b'
  -- what a body reaches is the effect
  pub returned : (b : List ℤ) (c : ObjectCall) (n : ℕ) → lawful b → fits c → (body m n b c).turn ≡ Returned → HasReturned m Effect b c (body m n b c)
  pub trapped : (b : List ℤ) (c : ObjectCall) (n k : ℕ) → lawful b → fits c → (body m n b c).turn ≡ Trapped k → HasTrapped m Effect b c k
  pub never_stuck : (b : List ℤ) (c : ObjectCall) (n : ℕ) → lawful b → fits c → (body m n b c).turn ≢ Stuck
  -- where there is an effect, the body reaches it
  pub returns : (b : List ℤ) (c : ObjectCall) (b' : List ℤ) (values : List Scalar) → lawful b → fits c → Effect c b b' (Answers values) → Reaches m b c b' values
  pub traps : (b : List ℤ) (c : ObjectCall) (b' : List ℤ) (k : ℕ) → lawful b → fits c → Effect c b b' (TrapReply k) → ReachesTrap m b c b' k
