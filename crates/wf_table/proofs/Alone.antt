-- A call made alone ends in one way, which is its effect; and so do calls made one at a time.
use Rattle.std.proofs.Common.{◌≡◌, List, [], ◌∷◌, refl, sym, ap, ◌∙◌, subst}
use Rattle.std.specs.Prelude.{ℤ}
use Rattle.std.proofs.Math.Logic.{∥∥₁_elim, ∥∥₁_prop}
use Rattle.ob_interface.specs.Call.{ObjectCall, Reply}
use Rattle.wf_history.specs.declared.event.CallId.{CallId}
use Rattle.wf_history.specs.Legal.{OneAtATime, none, more}
use Rattle.wf_table.specs.declared.engine_turn.EngineTurn.TheVariants.{Returned, Trapped}
use Rattle.wf_table.specs.Meaning.{Turned, Meaning, is_over, body, kept, kept_trap}
use Rattle.wf_table.specs.Law.{Effects, IsLawful}
use Rattle.wf_table.specs.TableAlone.{EndsAlone, returns, traps}
use Rattle.wf_table.proofs.TableBodies.{over_same}

module _ {Run : Type 0} (m : Meaning Run) where
  -- two ends of one call
  pub one_end : (call : ObjectCall) (before after other words others : List ℤ) → EndsAlone m call before after words → EndsAlone m call before other others → (after ≡ other) × (words ≡ others)
  one_end call before after other words others (returns n e) (returns k f) =
      let same = over_same m n k (m.start (m.lay call)) before (ap is_over e) (ap is_over f) in
      (ap (λ (t : Turned Run). t.block) same, ap (λ (t : Turned Run). kept m t.run) same)
  one_end call before after other words others (returns n e) (traps k j f) =
      let same = over_same m n k (m.start (m.lay call)) before (ap is_over e) (ap is_over f) in
      let apart : Returned ≡ Trapped j = sym e ∙ ap (λ (t : Turned Run). t.turn) same ∙ f in absurd (cc)
  one_end call before after other words others (traps n i e) (returns k f) =
      let same = over_same m n k (m.start (m.lay call)) before (ap is_over e) (ap is_over f) in
      let apart : Trapped i ≡ Returned = sym e ∙ ap (λ (t : Turned Run). t.turn) same ∙ f in absurd (cc)
  one_end call before after other words others (traps n i e) (traps k j f) =
      let same = over_same m n k (m.start (m.lay call)) before (ap is_over e) (ap is_over f) in
      let turns : Trapped i ≡ Trapped j = sym e ∙ ap (λ (t : Turned Run). t.turn) same ∙ f in
      let numbers : i ≡ j = cc in
      (refl, ap (kept_trap m) numbers)

  module _ (lawful : List ℤ → Type 0) (fits : ObjectCall → Type 0) (ready : Run → Type 0) (Effect : Effects) (law : IsLawful m lawful fits ready Effect) where
    -- the end is the effect, and the words read as its reply
    pub end_is_effect : (call : ObjectCall) (before after words : List ℤ) → lawful before → fits call → EndsAlone m call before after words → ∥ Effect call before after (m.reply call words) ∥₁
    end_is_effect call before after words ok fit (returns n e) =
        let reached = law.returned before call n ok fit e in
        subst (λ (a : Reply). ∥ Effect call before (body m n before call).block a ∥₁) (sym reached.reply) reached.effect
    end_is_effect call before after words ok fit (traps n k e) =
        let reached = law.trapped before call n k ok fit e in
        subst (λ (a : Reply). ∥ Effect call before before a ∥₁) (sym reached.reply) reached.effect

    -- calls that fit, made one at a time by their bodies, are made one at a time by their effects
    pub made_alone : (Made : CallId → ObjectCall → Type 0) → ((id : CallId) (call : ObjectCall) → Made id call → fits call) → (before after : List ℤ) (ids : List CallId) (answers : List (List ℤ)) → lawful before → OneAtATime Made (EndsAlone m) before ids answers after → ∥ ((replies : List Reply) × OneAtATime Made Effect before ids replies after) ∥₁
    made_alone Made known before after [] [] ok (none) = ∣ ([], none) ∣₁
    made_alone Made known before after [] (words ∷ answers) ok h = elim h [ ]
    made_alone Made known before after (id ∷ ids) [] ok h = elim h [ ]
    made_alone Made known before after (id ∷ ids) (words ∷ answers) ok (more {between = between} {call = call} made ends rest) =
        let fit = known id call made in
        ∥∥₁_elim (end_is_effect call before between words ok fit ends) ∥∥₁_prop (λ effect.
        ∥∥₁_elim (made_alone Made known between after ids answers (law.effect_lawful before call between (m.reply call words) ok fit effect) rest) ∥∥₁_prop (λ others.
        ∣ (m.reply call words ∷ others.0, more made effect others.1) ∣₁))
