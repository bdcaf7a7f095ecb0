-- One step more of a body, and the end of it.
use Rattle.std.proofs.Common.{◌≡◌, ◌≢◌, ℕ, zero, suc, true, List, length, refl, sym, ap, ◌∙◌, arith}
use Rattle.std.specs.Prelude.{ℤ}
use Rattle.std.proofs.Math.Nat.{ℕ_set}
use Rattle.std.proofs.Math.Logic.{∥∥₁_elim}
use Rattle.ob_interface.specs.Call.{ObjectCall}
use Rattle.wf_table.specs.declared.engine_turn.EngineTurn.{EngineTurn}
use Rattle.wf_table.specs.declared.engine_turn.EngineTurn.TheVariants.{On, Returned, Trapped, Stuck}
use Rattle.wf_table.specs.Meaning.{Turned, Meaning, after_turn, steps, body}
use Rattle.wf_table.specs.Law.{Effects, IsLawful}
use Rattle.wf_table.specs.HelpAlone.{has_ended, left, replied, Alone}

module _ {Run : Type 0} (m : Meaning Run) where
  first_step : (x : EngineTurn) (t : Turned Run) → t.turn ≡ x → after_turn x t (record { turn = On; run = t.run; block = t.block }) ≡ t
  first_step On t e = ap (λ (k : EngineTurn). record { turn = k; run = t.run; block = t.block }) (sym e)
  first_step Returned t e = refl
  first_step (Trapped k) t e = refl
  first_step Stuck t e = refl

  later_step : (x : EngineTurn) (t y w : Turned Run) (r : Run) (b : List ℤ) → (after_turn x t y).turn ≡ On → t.turn ≡ x → (y.turn ≡ On → w ≡ m.step y.run y.block) → after_turn x t w ≡ m.step (after_turn x t y).run (after_turn x t y).block
  later_step On t y w r b on is next = next on
  later_step Returned t y w r b on is next = (let no : Returned ≡ On = sym is ∙ on in absurd (cc))
  later_step (Trapped k) t y w r b on is next = (let no : Trapped k ≡ On = sym is ∙ on in absurd (cc))
  later_step Stuck t y w r b on is next = (let no : Stuck ≡ On = sym is ∙ on in absurd (cc))

  -- while the body goes on, one step more is the engine's next one
  pub steps_more : (s : ℕ) (r : Run) (b : List ℤ) → (steps m s r b).turn ≡ On → steps m (suc s) r b ≡ m.step (steps m s r b).run (steps m s r b).block
  steps_more zero r b on = first_step (m.step r b).turn (m.step r b) refl
  steps_more (suc s) r b on = later_step (m.step r b).turn (m.step r b) (steps m s (m.step r b).run (m.step r b).block) (steps m (suc s) (m.step r b).run (m.step r b).block) r b on refl (steps_more s (m.step r b).run (m.step r b).block)

  -- a body that has just ended
  pub ended_alone : (call : ObjectCall) (b : List ℤ) (n : ℕ) (t : Turned Run) (x : EngineTurn) → body m n b call ≡ t → t.turn ≡ x → has_ended x ≡ true → Alone m call b (left x b t.block) (replied m x t.run)
  ended_alone call b n t x is turn e = record {
    count = n;
    ended = ap (λ (u : Turned Run). has_ended u.turn) is ∙ ap has_ended turn ∙ e;
    left_are = ap (λ (u : Turned Run). left u.turn b u.block) is ∙ ap (λ (k : EngineTurn). left k b t.block) turn;
    words_are = ap (λ (u : Turned Run). replied m u.turn u.run) is ∙ ap (λ (k : EngineTurn). replied m k t.run) turn;
  }

  module _ (lawful : List ℤ → Type 0) (fits : ObjectCall → Type 0) (ready : Run → Type 0) (Effect : Effects) (law : IsLawful m lawful fits ready Effect) where
    -- on a lawful block it is never Stuck, and no trap is 0
    pub not_stuck : (call : ObjectCall) (b : List ℤ) (n : ℕ) → ∥ lawful b ∥₁ → fits call → (body m n b call).turn ≢ Stuck
    not_stuck call b n ok fit stuck = ∥∥₁_elim ok (hlevel) (λ good. law.never_stuck b call n good fit stuck)

    pub trap_some : (call : ObjectCall) (b : List ℤ) (n k : ℕ) → ∥ lawful b ∥₁ → fits call → (body m n b call).turn ≡ Trapped k → k ≢ 0
    trap_some call b n k ok fit is none = ∥∥₁_elim ok (hlevel) (λ good. omega (arith, none, (law.trapped b call n k good fit is).number))

    pub length_last : (b : List ℤ) → ∥ lawful b ∥₁ → length b ≡ m.variables
    length_last b ok = ∥∥₁_elim ok (ℕ_set (length b) m.variables) (λ good. law.length_lawful b good)
