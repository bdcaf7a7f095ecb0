-- A body that goes on has not come to its end.
use Rattle.std.proofs.Common.{◌≡◌, ℕ, zero, suc, ◌<◌, true, List, refl, arith}
use Rattle.std.specs.Prelude.{ℤ}
use Rattle.ob_interface.specs.Call.{ObjectCall}
use Rattle.wf_table.specs.declared.engine_turn.EngineTurn.{EngineTurn}
use Rattle.wf_table.specs.declared.engine_turn.EngineTurn.TheVariants.{On, Returned, Trapped, Stuck}
use Rattle.wf_table.specs.Meaning.{Meaning, Turned, steps, after_turn, is_over, body}
use Rattle.wf_table.specs.Ends.{EndsWithin}

module _ {Run : Type 0} (m : Meaning Run) where
  turn_goes_on : (limit k : ℕ) (turn : EngineTurn) (t last next : Turned Run) → t.turn ≡ turn → (is_over last.turn ≡ true → next.turn ≡ On → k < limit) → is_over (after_turn turn t last).turn ≡ true → (after_turn turn t next).turn ≡ On → k < limit
  turn_goes_on limit k On t last next is less over on = less over on
  turn_goes_on limit k Returned t last next is less over on = absurd (cc)
  turn_goes_on limit k (Trapped n) t last next is less over on = absurd (cc)
  turn_goes_on limit k Stuck t last next is less over on = absurd (cc)

  steps_go_on : (limit k : ℕ) (run : Run) (block : List ℤ) → is_over (steps m limit run block).turn ≡ true → (steps m k run block).turn ≡ On → k < limit
  steps_go_on zero k run block over on = absurd (cc)
  steps_go_on (suc limit) zero run block over on = omega arith
  steps_go_on (suc limit) (suc k) run block over on =
      let t = m.step run block in
      let less = turn_goes_on limit k t.turn t (steps m limit t.run t.block) (steps m k t.run t.block) refl (steps_go_on limit k t.run t.block) over on in
      omega (arith, less)

  -- a body that goes on has taken fewer steps than it needs to end
  pub body_goes_on : (limit k : ℕ) (block : List ℤ) (call : ObjectCall) → EndsWithin m limit block call → (body m k block call).turn ≡ On → k < limit
  body_goes_on limit k block call ends on = steps_go_on limit k (m.start (m.lay call)) block ends on
