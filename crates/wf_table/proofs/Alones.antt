-- What a call alone makes of a block is one thing at most, and keeps blocks lawful.
use Rattle.std.proofs.Common.{◌≡◌, ℕ, true, List, refl, sym, ap, ◌∙◌, subst}
use Rattle.std.specs.Prelude.{ℤ}
use Rattle.std.proofs.Math.Logic.{∥∥₁_elim, ∥∥₁_map, ∥∥₁_prop}
use Rattle.ob_interface.specs.Call.{ObjectCall}
use Rattle.wf_table.specs.declared.engine_turn.EngineTurn.{EngineTurn}
use Rattle.wf_table.specs.declared.engine_turn.EngineTurn.TheVariants.{On, Returned, Trapped, Stuck}
use Rattle.wf_table.specs.Meaning.{Turned, Meaning, is_over, body}
use Rattle.wf_table.specs.Law.{Effects, IsLawful}
use Rattle.wf_table.proofs.TableBodies.{over_same}
use Rattle.wf_table.specs.HelpAlone.{has_ended, left, replied, Alone}

over_of_ended : (t : EngineTurn) → has_ended t ≡ true → is_over t ≡ true
over_of_ended On e = absurd (cc)
over_of_ended Returned e = refl
over_of_ended (Trapped k) e = refl
over_of_ended Stuck e = absurd (cc)

module _ {Run : Type 0} (m : Meaning Run) where
  -- over stays over
  pub alone_same : (call : ObjectCall) (b a₁ a₂ w₁ w₂ : List ℤ) → Alone m call b a₁ w₁ → Alone m call b a₂ w₂ → (a₁ ≡ a₂) × (w₁ ≡ w₂)
  alone_same call b a₁ a₂ w₁ w₂ h k =
      let same = over_same m h.count k.count (m.start (m.lay call)) b (over_of_ended _ h.ended) (over_of_ended _ k.ended) in
      (sym h.left_are ∙ ap (λ (t : Turned Run). left t.turn b t.block) same ∙ k.left_are, sym h.words_are ∙ ap (λ (t : Turned Run). replied m t.turn t.run) same ∙ k.words_are)

  module _ (lawful : List ℤ → Type 0) (fits : ObjectCall → Type 0) (ready : Run → Type 0) (Effect : Effects) (law : IsLawful m lawful fits ready Effect) where
    lawful_by : (call : ObjectCall) (b : List ℤ) (n : ℕ) (t : EngineTurn) → lawful b → fits call → (body m n b call).turn ≡ t → has_ended t ≡ true → ∥ lawful (left t b (body m n b call).block) ∥₁
    lawful_by call b n On ok fit is e = absurd (cc)
    lawful_by call b n Returned ok fit is e = ∥∥₁_map (law.returned b call n ok fit is).effect (λ effect. law.effect_lawful b call (body m n b call).block _ ok fit effect)
    lawful_by call b n (Trapped k) ok fit is e = ∣ ok ∣₁
    lawful_by call b n Stuck ok fit is e = absurd (cc)

    -- calls keep blocks lawful
    pub alone_lawful : (call : ObjectCall) (b a w : List ℤ) → ∥ lawful b ∥₁ → fits call → Alone m call b a w → ∥ lawful a ∥₁
    alone_lawful call b a w ok fit h = ∥∥₁_elim ok ∥∥₁_prop (λ good. subst (λ (x : List ℤ). ∥ lawful x ∥₁) h.left_are (lawful_by call b h.count (body m h.count b call).turn good fit refl h.ended))
