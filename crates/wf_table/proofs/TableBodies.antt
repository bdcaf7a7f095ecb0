-- A body that is over stays over, so an effect is a function.
use Rattle.std.proofs.Common.{◌≡◌, ℕ, zero, suc, true, List, refl, sym, ap, ◌∙◌}
use Rattle.std.specs.Prelude.{ℤ}
use Rattle.std.proofs.lemmas.Bool.{false≢true}
use Rattle.ob_interface.specs.declared.scalar.Scalar.{Scalar}
use Rattle.ob_interface.specs.Call.{ObjectCall, Reply, Answers, Trapped as TrapReply}
use Rattle.wf_table.specs.declared.engine_turn.EngineTurn.{EngineTurn}
use Rattle.wf_table.specs.declared.engine_turn.EngineTurn.TheVariants.{On, Returned, Trapped, Stuck}
use Rattle.wf_table.specs.Meaning.{Turned, Meaning, after_turn, is_over, steps, kept}
use Rattle.wf_table.specs.Law.{Effects, IsLawful, Reaches, ReachesTrap}

module _ {Run : Type 0} where
  by_turn : (t : EngineTurn) (x y w : Turned Run) → is_over (after_turn t x y).turn ≡ true → is_over (after_turn t x w).turn ≡ true → (is_over y.turn ≡ true → is_over w.turn ≡ true → y ≡ w) → after_turn t x y ≡ after_turn t x w
  by_turn On x y w e f same = same e f
  by_turn Returned x y w e f same = refl
  by_turn (Trapped k) x y w e f same = refl
  by_turn Stuck x y w e f same = refl

  -- two numbers of steps that both suffice lead to the same end
  pub over_same : (m : Meaning Run) (n k : ℕ) (r : Run) (b : List ℤ) → is_over (steps m n r b).turn ≡ true → is_over (steps m k r b).turn ≡ true → steps m n r b ≡ steps m k r b
  over_same m zero k r b e f = absurd (false≢true e)
  over_same m (suc n) zero r b e f = absurd (false≢true f)
  over_same m (suc n) (suc k) r b e f = by_turn (m.step r b).turn (m.step r b) (steps m n (m.step r b).run (m.step r b).block) (steps m k (m.step r b).run (m.step r b).block) e f (over_same m n k (m.step r b).run (m.step r b).block)

  both_return : (m : Meaning Run) (b : List ℤ) (c : ObjectCall) (b₁ b₂ : List ℤ) (v₁ v₂ : List Scalar) → Reaches m b c b₁ v₁ → Reaches m b c b₂ v₂ → (b₁ ≡ b₂) × (Answers v₁ ≡ Answers v₂)
  both_return m b c b₁ b₂ v₁ v₂ h k =
      let same = over_same m h.count k.count (m.start (m.lay c)) b (ap is_over h.turn) (ap is_over k.turn) in
      (sym h.block_is ∙ ap (λ (t : Turned Run). t.block) same ∙ k.block_is, sym h.reply ∙ ap (λ (t : Turned Run). m.reply c (kept m t.run)) same ∙ k.reply)

  not_both : {A : Type 0} (m : Meaning Run) (b : List ℤ) (c : ObjectCall) (b₁ b₂ : List ℤ) (v : List Scalar) (k : ℕ) → Reaches m b c b₁ v → ReachesTrap m b c b₂ k → A
  not_both m b c b₁ b₂ v k h t =
      let same = over_same m h.count t.count (m.start (m.lay c)) b (ap is_over h.turn) (ap is_over t.turn) in
      let apart : Returned ≡ Trapped k = sym h.turn ∙ ap (λ (t : Turned Run). t.turn) same ∙ t.turn in absurd (cc)

  both_trap : (m : Meaning Run) (b : List ℤ) (c : ObjectCall) (b₁ b₂ : List ℤ) (k₁ k₂ : ℕ) → ReachesTrap m b c b₁ k₁ → ReachesTrap m b c b₂ k₂ → (b₁ ≡ b₂) × (TrapReply k₁ ≡ TrapReply k₂)
  both_trap m b c b₁ b₂ k₁ k₂ h k =
      let same = over_same m h.count k.count (m.start (m.lay c)) b (ap is_over h.turn) (ap is_over k.turn) in
      let turns : Trapped k₁ ≡ Trapped k₂ = sym h.turn ∙ ap (λ (t : Turned Run). t.turn) same ∙ k.turn in
      let numbers : k₁ ≡ k₂ = cc in
      (sym h.block_is ∙ k.block_is, ap TrapReply numbers)

  module _ (m : Meaning Run) (lawful : List ℤ → Type 0) (fits : ObjectCall → Type 0) (ready : Run → Type 0) (Effect : Effects) (law : IsLawful m lawful fits ready Effect) where
    -- on a lawful block a fitting call has one effect at most
    pub functional : (b : List ℤ) (c : ObjectCall) (b₁ b₂ : List ℤ) (a₁ a₂ : Reply) → lawful b → fits c → Effect c b b₁ a₁ → Effect c b b₂ a₂ → (b₁ ≡ b₂) × (a₁ ≡ a₂)
    functional b c b₁ b₂ (Answers v₁) (Answers v₂) ok fit e f = both_return m b c b₁ b₂ v₁ v₂ (law.returns b c b₁ v₁ ok fit e) (law.returns b c b₂ v₂ ok fit f)
    functional b c b₁ b₂ (Answers v₁) (TrapReply k₂) ok fit e f = not_both m b c b₁ b₂ v₁ k₂ (law.returns b c b₁ v₁ ok fit e) (law.traps b c b₂ k₂ ok fit f)
    functional b c b₁ b₂ (TrapReply k₁) (Answers v₂) ok fit e f = not_both m b c b₂ b₁ v₂ k₁ (law.returns b c b₂ v₂ ok fit f) (law.traps b c b₁ k₁ ok fit e)
    functional b c b₁ b₂ (TrapReply k₁) (TrapReply k₂) ok fit e f = both_trap m b c b₁ b₂ k₁ k₂ (law.traps b c b₁ k₁ ok fit e) (law.traps b c b₂ k₂ ok fit f)
