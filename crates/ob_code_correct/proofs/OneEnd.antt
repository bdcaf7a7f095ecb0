-- A body has one end; so effects with which an engine is lawful are one.
use Rattle.std.proofs.Common.{◌≡◌, ℕ, zero, suc, ◌≤◌, true, ℤ, List, refl, sym, ap, ◌∙◌, inl, inr, arith}
use Rattle.std.proofs.lemmas.Bool.{cases_lt}
use Rattle.ob_interface.specs.declared.scalar.Scalar.{Scalar}
use Rattle.ob_interface.specs.Call.{ObjectCall, Reply, Answers, Trapped as TrapReply}
use Rattle.wf_table.specs.declared.engine_turn.EngineTurn.{EngineTurn}
use Rattle.wf_table.specs.declared.engine_turn.EngineTurn.TheVariants.{On, Returned, Trapped, Stuck}
use Rattle.wf_table.specs.Meaning.{Turned, Meaning, after_turn, is_over, steps, body, kept}
use Rattle.wf_table.specs.Law.{Effects, Reaches, ReachesTrap, IsLawful}

module _ {Run : Type 0} (m : Meaning Run) where
  after_over : (t : EngineTurn) (s first next : Turned Run) → s.turn ≡ t → (is_over first.turn ≡ true → next ≡ first) → is_over (after_turn t s first).turn ≡ true → after_turn t s next ≡ after_turn t s first
  after_over On s first next e same over = same over
  after_over Returned s first next e same over = refl
  after_over (Trapped k) s first next e same over = refl
  after_over Stuck s first next e same over = refl

  -- what is over stays as it is
  pub stays_over : (n k : ℕ) (run : Run) (block : List ℤ) → n ≤ k → is_over (steps m n run block).turn ≡ true → steps m k run block ≡ steps m n run block
  stays_over zero k run block le over = absurd (cc)
  stays_over (suc n) zero run block le over = absurd (omega (arith, le))
  stays_over (suc n) (suc k) run block le over =
      let s = m.step run block in
      after_over s.turn s (steps m n s.run s.block) (steps m k s.run s.block) refl (stays_over n k s.run s.block (omega (arith, le))) over

  pub one_end : (n k : ℕ) (block : List ℤ) (call : ObjectCall) → is_over (body m n block call).turn ≡ true → is_over (body m k block call).turn ≡ true → body m n block call ≡ body m k block call
  one_end n k block call first second =
      elim (cases_lt n k) [
        | inl lt ↦ sym (stays_over n k (m.start (m.lay call)) block (omega (arith, lt)) first)
        | inr le ↦ stays_over k n (m.start (m.lay call)) block le second
      ]

  -- two ends of one body
  abbrev Same : List ℤ → Reply → List ℤ → Reply → Type 0
  Same a x b y = (a ≡ b) × (x ≡ y)

  both_returned : (block : List ℤ) (call : ObjectCall) (a b : List ℤ) (v w : List Scalar) → Reaches m block call a v → Reaches m block call b w → Same a (Answers v) b (Answers w)
  both_returned block call a b v w x y =
      let one = one_end x.count y.count block call (ap is_over x.turn) (ap is_over y.turn) in (
        sym x.block_is ∙ ap (λ (t : Turned Run). t.block) one ∙ y.block_is,
        sym x.reply ∙ ap (λ (t : Turned Run). m.reply call (kept m t.run)) one ∙ y.reply,
      )

  not_both : (block : List ℤ) (call : ObjectCall) (a b : List ℤ) (v : List Scalar) (k : ℕ) → Reaches m block call a v → ReachesTrap m block call b k → ⊥
  not_both block call a b v k x y =
      let one = one_end x.count y.count block call (ap is_over x.turn) (ap is_over y.turn) in
      let same : Returned ≡ Trapped k = sym x.turn ∙ ap (λ (t : Turned Run). t.turn) one ∙ y.turn in
      cc

  both_trapped : (block : List ℤ) (call : ObjectCall) (a b : List ℤ) (j k : ℕ) → ReachesTrap m block call a j → ReachesTrap m block call b k → Same a (TrapReply j) b (TrapReply k)
  both_trapped block call a b j k x y =
      let one = one_end x.count y.count block call (ap is_over x.turn) (ap is_over y.turn) in
      let same : Trapped j ≡ Trapped k = sym x.turn ∙ ap (λ (t : Turned Run). t.turn) one ∙ y.turn in
      let number : j ≡ k = cc in
      (sym x.block_is ∙ y.block_is, ap TrapReply number)

  module _ (lawful lawful' : List ℤ → Type 0) (fits fits' : ObjectCall → Type 0) (ready ready' : Run → Type 0) (Effect Effect' : Effects)
      (law : IsLawful m lawful fits ready Effect) (law' : IsLawful m lawful' fits' ready' Effect') where
    pub one_effect : (block : List ℤ) (call : ObjectCall) (a b : List ℤ) (x y : Reply) → lawful block → lawful' block → fits call → fits' call → Effect call block a x → Effect' call block b y → Same a x b y
    one_effect block call a b (Answers v) (Answers w) l l' f f' e e' = both_returned block call a b v w (law.returns block call a v l f e) (law'.returns block call b w l' f' e')
    one_effect block call a b (Answers v) (TrapReply k) l l' f f' e e' = absurd (not_both block call a b v k (law.returns block call a v l f e) (law'.traps block call b k l' f' e'))
    one_effect block call a b (TrapReply j) (Answers w) l l' f f' e e' = absurd (not_both block call b a w j (law'.returns block call b w l' f' e') (law.traps block call a j l f e))
    one_effect block call a b (TrapReply j) (TrapReply k) l l' f f' e e' = both_trapped block call a b j k (law.traps block call a j l f e) (law'.traps block call b k l' f' e')
