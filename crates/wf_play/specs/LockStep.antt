-- Two engines in lock-step: whoever sees only what steps answer, blocks, results and replies can't tell the one from the other.
use Rattle.std.specs.Prelude.{◌≡◌, ℕ, ℤ, List}
use Rattle.ob_interface.specs.Call.{ObjectCall}
use Rattle.wf_table.specs.Meaning.{Meaning}

-- by which runs of the one are as good as which of the other: they are from the start of the same call on, and stay so with each step
-- on the same block
pub record AreInLockStep {Run Other : Type 0} (m : Meaning Run) (o : Meaning Other) (Same : Run → Other → Type 0) : Type 0 where
  -- numbers of words
  pub variables : o.variables ≡ m.variables
  pub replies : o.replies ≡ m.replies
  pub arguments : o.arguments ≡ m.arguments
  -- calls and replies as words
  pub lay : (c : ObjectCall) → o.lay c ≡ m.lay c
  pub reply : (c : ObjectCall) (words : List ℤ) → o.reply c words ≡ m.reply c words
  -- runs
  pub start : (words : List ℤ) → Same (m.start words) (o.start words)
  pub turn : (r : Run) (r' : Other) (b : List ℤ) → Same r r' → (o.step r' b).turn ≡ (m.step r b).turn
  pub block : (r : Run) (r' : Other) (b : List ℤ) → Same r r' → (o.step r' b).block ≡ (m.step r b).block
  pub run : (r : Run) (r' : Other) (b : List ℤ) → Same r r' → Same (m.step r b).run (o.step r' b).run
  pub result : (r : Run) (r' : Other) (i : ℕ) → Same r r' → o.result r' i ≡ m.result r i
