-- What a call alone makes of the variables of a block: those behind it, and the words of its reply.
use Rattle.std.specs.Prelude.{◌≡◌, ℕ, Bool, true, false, ℤ, List}
use Rattle.ob_interface.specs.Call.{ObjectCall}
use Rattle.wf_table.specs.declared.engine_turn.EngineTurn.{EngineTurn}
use Rattle.wf_table.specs.declared.engine_turn.EngineTurn.TheVariants.{On, Returned, Trapped, Stuck}
use Rattle.wf_table.specs.Meaning.{Meaning, body, kept, kept_trap}

-- the body has returned or trapped
abbrev pub has_ended : EngineTurn → Bool
has_ended On = false
has_ended Returned = true
has_ended (Trapped k) = true
has_ended Stuck = false

-- the variables that a body leaves which has ended: a trap leaves the old ones
abbrev pub left : EngineTurn → List ℤ → List ℤ → List ℤ
left On old new = new
left Returned old new = new
left (Trapped k) old new = old
left Stuck old new = new

-- the words of its reply
abbrev pub replied : {Run : Type 0} → Meaning Run → EngineTurn → Run → List ℤ
replied m On run = kept m run
replied m Returned run = kept m run
replied m (Trapped k) run = kept_trap m k
replied m Stuck run = kept m run

-- the call, made alone on the first variables, leaves the second ones and replies these words
pub record Alone {Run : Type 0} (m : Meaning Run) (call : ObjectCall) (before after words : List ℤ) : Type 0 where
  pub count : ℕ
  pub ended : has_ended (body m count before call).turn ≡ true
  pub left_are : left (body m count before call).turn before (body m count before call).block ≡ after
  pub words_are : replied m (body m count before call).turn (body m count before call).run ≡ words
