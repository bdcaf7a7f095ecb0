-- Items stand for one list of steps, which is a run; and items in which one is too long stand for none.
use Rattle.std.proofs.Common.{◌≡◌, ℕ, zero, suc, ◌-◌, ◌≤◌, List, [], ◌∷◌, ◌++◌, replicate, take, drop, refl, sym, ap, ◌∙◌, subst, inl, inr, append_assoc, append-nil}
use Rattle.std.specs.Prelude.{Some, slice_get}
use Rattle.std.proofs.lemmas.Bool.{cases_order}
use Rattle.std.proofs.lemmas.Option.{same_Some}
use Rattle.ob_text_words.specs.declared.item.Item.{Item}
use Rattle.ob_text_words.specs.Schedule.{process_of}
use Rattle.wf_object.specs.InARow.{after_steps}
use Rattle.wf_play.specs.ItemSteps.{AreItemSteps, IsBeyond, IsFirstBeyond, StandsFor, more, none}
use Rattle.wf_table.specs.declared.process.Sizes.{Sizes}
use Rattle.wf_table.specs.Meaning.{Meaning}
use Rattle.wf_table.specs.Object.{State, step_of}
use Rattle.wf_table.specs.Runs.{Act, act_of, run, turns}

at_place : {X : Type 0} (xs : List X) (i : ℕ) (x : X) → slice_get xs i ≡ Some x → xs ≡ take i xs ++ x ∷ drop (suc i) xs
at_place [] i x h = absurd (cc)
at_place {X} (a ∷ xs) zero x h = ap (λ (b : X). b ∷ xs) (same_Some a x h)
at_place {X} (a ∷ xs) (suc i) x h = ap (λ (ys : List X). a ∷ ys) (at_place xs i x h)

module _ {Run : Type 0} (m : Meaning Run) (z : Sizes) where
  pub run-append : (acts others : List Act) (s : State Run) → run m z (acts ++ others) s ≡ run m z others (run m z acts s)
  run-append [] others s = refl
  run-append (act ∷ acts) others s = run-append acts others (act_of m z s act)

  pub one_number : (item : Item) (k other : ℕ) (s : State Run) → StandsFor m z item k s → StandsFor m z item other s → k ≡ other
  one_number item k other s h h' = elim (cases_order k other) [
    | inl same ↦ same
    | inr apart ↦ elim apart [ inl less ↦ absurd (h'.least k less h.ends) | inr greater ↦ absurd (h.least other greater h'.ends) ]
  ]

  pub one_run : (limit : ℕ) (items : List Item) (s after another : State Run) (steps others : List ℕ) → AreItemSteps m z limit items s steps after → AreItemSteps m z limit items s others another → (steps ≡ others) × (after ≡ another)
  one_run limit items s after another steps others none none = (refl, refl)
  one_run limit items s after another steps others (more {item = item} {items = rest} {k = k} {steps = those} h few hs) (more {k = j} {steps = these} h' few' hs') =
      let same : k ≡ j = one_number item k j s h h' in
      let here : AreItemSteps m z limit rest (after_steps m z (process_of item) k s) these another = subst (λ (i : ℕ). AreItemSteps m z limit rest (after_steps m z (process_of item) i s) these another) (sym same) hs' in
      let both = one_run limit rest (after_steps m z (process_of item) k s) after another those these hs here in
      (ap (λ (i : ℕ). replicate i (process_of item) ++ those) same ∙ ap (λ (ps : List ℕ). replicate j (process_of item) ++ ps) both.0, both.1)

  -- one item more at the end
  pub items-push : (limit : ℕ) (items : List Item) (s t : State Run) (steps : List ℕ) (item : Item) (k : ℕ) → AreItemSteps m z limit items s steps t → StandsFor m z item k t → k ≤ limit →
      AreItemSteps m z limit (items ++ item ∷ []) s (steps ++ replicate k (process_of item)) (after_steps m z (process_of item) k t)
  items-push limit items s t steps item k none h few =
      subst (λ (ps : List ℕ). AreItemSteps m z limit (item ∷ []) s ps (after_steps m z (process_of item) k s)) (append-nil (replicate k (process_of item))) (more h few none)
  items-push limit items s t steps item k (more {item = first} {items = rest} {k = j} {steps = those} h₀ few₀ hs) h few =
      subst (λ (ps : List ℕ). AreItemSteps m z limit (first ∷ (rest ++ item ∷ [])) s ps (after_steps m z (process_of item) k t))
      (sym (append_assoc (replicate j (process_of first)) those (replicate k (process_of item))))
      (more h₀ few₀ (items-push limit rest (after_steps m z (process_of first) j s) t those item k hs h few))

  -- the first of the steps, or the last
  pub step_first : (p k : ℕ) (s : State Run) → after_steps m z p k (step_of m z s p) ≡ step_of m z (after_steps m z p k s) p
  step_first p zero s = refl
  step_first p (suc k) s = ap (λ (t : State Run). step_of m z t p) (step_first p k s)

  pub steps_run : (p k : ℕ) (ps : List ℕ) (s : State Run) → run m z (turns (replicate k p ++ ps)) s ≡ run m z (turns ps) (after_steps m z p k s)
  steps_run p zero ps s = refl
  steps_run p (suc k) ps s = steps_run p k ps (step_of m z s p) ∙ ap (run m z (turns ps)) (step_first p k s)

  -- the steps lead to the state
  pub items_run : (limit : ℕ) (items : List Item) (s after : State Run) (steps : List ℕ) → AreItemSteps m z limit items s steps after → run m z (turns steps) s ≡ after
  items_run limit items s after steps none = refl
  items_run limit items s after steps (more {item = item} {items = rest} {k = k} {steps = those} h few hs) =
      steps_run (process_of item) k those s ∙ items_run limit rest (after_steps m z (process_of item) k s) after those hs

  beyond_none : (limit : ℕ) (first rest : List Item) (s t after : State Run) (steps others : List ℕ) (item : Item) → AreItemSteps m z limit first s steps t → IsBeyond m z limit item t → AreItemSteps m z limit (first ++ item ∷ rest) s others after → ⊥
  beyond_none limit first rest s t after steps others item none beyond (more {k = k} h few hs) = beyond k few h.ends
  beyond_none limit first rest s t after steps others item (more {item = one} {items = ones} {k = k} {steps = those} h few hs) beyond (more {k = j} {steps = these} h' few' hs') =
      let same : k ≡ j = one_number one k j s h h' in
      beyond_none limit ones rest (after_steps m z (process_of one) k s) t after those these item hs beyond
      (subst (λ (i : ℕ). AreItemSteps m z limit (ones ++ item ∷ rest) (after_steps m z (process_of one) i s) these after) (sym same) hs')

  -- items of which one is beyond the limit stand for no steps within it
  pub none_beyond : (limit : ℕ) (items : List Item) (s after : State Run) (number : ℕ) (others : List ℕ) → IsFirstBeyond m z limit items s number → AreItemSteps m z limit items s others after → ⊥
  none_beyond limit items s after number others first h =
      let split = at_place items (number - 1) first.item first.here in
      beyond_none limit (take (number - 1) items) (drop (suc (number - 1)) items) s first.state after first.steps others first.item first.before first.beyond
      (subst (λ (xs : List Item). AreItemSteps m z limit xs s others after) split h)
