-- What is kept of the configurations that were found, by their words.
use Rattle.std.proofs.Common.{◌≡◌, refl, sym, ap, ◌∙◌, subst, ℕ, zero, suc, Bool, true, false, ◌||◌, ◌&&◌, List, [], ◌∷◌, ◌++◌, map, Option, None, Some, IfSome, inl, inr, if◌then◌else◌}
use Rattle.std.proofs.Math.Dec.{eqb}
use Rattle.std.proofs.lemmas.Bool.Decides.{Decides-eqb}
use Rattle.std.proofs.lemmas.List.{map-append}
use Rattle.std.proofs.lemmas.List.Elements.{Contains-append_right, Contains-push_cases}
use Rattle.std.proofs.lemmas.Option.{same_Some}
use Rattle.std.proofs.lemmas.Slice.Eq.{slice_eq-Decides}
use Rattle.std.specs.Cmp.Lexicographic.{pointwise}
use Rattle.std.specs.List.{slice_get, Contains, list_any}
use Rattle.indexmap.specs.IndexSet.{insert_key}
use Rattle.wf_history.proofs.Positions.{contains_at}
use Rattle.wf_outcomes.specs.declared.seen.Found.{Found}
use Rattle.wf_outcomes.specs.Explored.{Kept, kept_in, IsArrival, IsFound, IsWorded}
use Rattle.wf_outcomes.specs.Merges.{Configuration}
use Rattle.wf_outcomes.proofs.OutcomesLists.{same_configuration}

true≢false : true ≡ false → ⊥
true≢false e = cc

-- what `==` says of two that were found
module _ {State : Type 0} where
  abbrev pub found_eq : Found State → Found State → Bool
  found_eq a b = pointwise eqb a.counts.items b.counts.items && pointwise eqb a.kept.value.words.items b.kept.value.words.items

  found_exact : (a b : Found State) → found_eq a b ≡ true → (a.counts.items ≡ b.counts.items) × (a.kept.value.words.items ≡ b.kept.value.words.items)
  found_exact a b e = by (pointwise eqb a.counts.items b.counts.items) (pointwise eqb a.kept.value.words.items b.kept.value.words.items) refl refl e
    where
      by : (p q : Bool) → p ≡ pointwise eqb a.counts.items b.counts.items → q ≡ pointwise eqb a.kept.value.words.items b.kept.value.words.items → (p && q) ≡ true → (a.counts.items ≡ b.counts.items) × (a.kept.value.words.items ≡ b.kept.value.words.items)
      by true true is_p is_q h = (
        (slice_eq-Decides {E = eqb} Decides-eqb a.counts.items b.counts.items true is_p).0 refl,
        (slice_eq-Decides {E = eqb} Decides-eqb a.kept.value.words.items b.kept.value.words.items true is_q).0 refl,
      )
      by true false is_p is_q h = absurd (cc)
      by false q is_p is_q h = absurd (cc)

  found_alike : (a b : Found State) → a.counts.items ≡ b.counts.items → a.kept.value.words.items ≡ b.kept.value.words.items → found_eq a b ≡ true
  found_alike a b counts words =
      let p = (slice_eq-Decides {E = eqb} Decides-eqb a.counts.items b.counts.items (pointwise eqb a.counts.items b.counts.items) refl).1 counts in
      let q = (slice_eq-Decides {E = eqb} Decides-eqb a.kept.value.words.items b.kept.value.words.items (pointwise eqb a.kept.value.words.items b.kept.value.words.items) refl).1 words in
      ap (λ (x : Bool). x && pointwise eqb a.kept.value.words.items b.kept.value.words.items) p ∙ q

-- what a set's keys are after an insertion
module _ {K : Type 0} (eq : K → K → Bool) (keys : List K) (k : K) where
  keys_kept : list_any (eq k) keys ≡ true → insert_key eq keys k ≡ keys
  keys_kept there = ap (λ (b : Bool). if b then keys else keys ++ k ∷ []) there

  keys_pushed : list_any (eq k) keys ≡ false → insert_key eq keys k ≡ keys ++ k ∷ []
  keys_pushed new = ap (λ (b : Bool). if b then keys else keys ++ k ∷ []) new

module _ {State Meaning : Type 0} (meaning : State → Meaning) (words_of : Meaning → List ℕ) (told_apart : (a b : Meaning) → words_of a ≡ words_of b → a ≡ b) where
  abbrev pub AreWordedKeys : List (Found State) → Type 0
  AreWordedKeys keys = (f : Found State) → Contains keys f → IsWorded meaning words_of f

  -- the rest is worded, and the first
  rest_worded : (y : Found State) (keys : List (Found State)) → AreWordedKeys (y ∷ keys) → AreWordedKeys keys
  rest_worded y keys worded f there = worded f (Contains-append_right (y ∷ []) keys f there)

  first_worded : (y : Found State) (keys : List (Found State)) → AreWordedKeys (y ∷ keys) → IsWorded meaning words_of y
  first_worded y keys worded = worded y (contains_at (y ∷ keys) 0 y refl)

  pub same_here : (a b : Found State) → IsWorded meaning words_of a → IsWorded meaning words_of b → found_eq a b ≡ true → (kept_in meaning b).here ≡ (kept_in meaning a).here
  same_here a b is_a is_b e =
      let parts = found_exact a b e in
      same_configuration (sym parts.0) (told_apart (meaning b.kept.value.state) (meaning a.kept.value.state) (sym is_b ∙ sym parts.1 ∙ is_a))

  same_found : (a b : Found State) → IsWorded meaning words_of a → IsWorded meaning words_of b → (kept_in meaning b).here ≡ (kept_in meaning a).here → found_eq a b ≡ true
  same_found a b is_a is_b same =
      let counts : b.counts.items ≡ a.counts.items = ap (λ (c : Configuration Meaning). c.counts) same in
      let states : meaning b.kept.value.state ≡ meaning a.kept.value.state = ap (λ (c : Configuration Meaning). c.state) same in
      found_alike a b (sym counts) (is_a ∙ ap words_of (sym states) ∙ sym is_b)

  -- what the set has was found
  has_found : (keys : List (Found State)) (x : Found State) → AreWordedKeys keys → IsWorded meaning words_of x → list_any (found_eq x) keys ≡ true → IsFound (map (kept_in meaning) keys) (kept_in meaning x).here
  has_found [] x worded is h = absurd (cc)
  has_found (y ∷ keys) x worded is h =
      by (found_eq x y) refl (λ e. has_found keys x (rest_worded y keys worded) is (sym (ap (λ (b : Bool). b || list_any (found_eq x) keys) e) ∙ h))
    where
      by : (b : Bool) → found_eq x y ≡ b → (found_eq x y ≡ false → IsFound (map (kept_in meaning) keys) (kept_in meaning x).here) → IsFound (map (kept_in meaning) (y ∷ keys)) (kept_in meaning x).here
      by true e later = (0, kept_in meaning y, refl, same_here x y is (first_worded y keys worded) e)
      by false e later = let r = later e in (suc r.0, r.1, r.2, r.3)

  -- and what it has not was not
  not_found : (keys : List (Found State)) (x : Found State) → AreWordedKeys keys → IsWorded meaning words_of x → list_any (found_eq x) keys ≡ false →
      (k : ℕ) (e : Kept Meaning) → slice_get (map (kept_in meaning) keys) k ≡ Some e → e.here ≡ (kept_in meaning x).here → ⊥
  not_found [] x worded is h k e at same = absurd (cc)
  not_found (y ∷ keys) x worded is h zero e at same =
      let here : kept_in meaning y ≡ e = same_Some (kept_in meaning y) e at in
      let equal = same_found x y is (first_worded y keys worded) (ap (λ (z : Kept Meaning). z.here) here ∙ same) in
      true≢false (sym (ap (λ (b : Bool). b || list_any (found_eq x) keys) equal) ∙ h)
  not_found (y ∷ keys) x worded is h (suc k) e at same =
      by (found_eq x y) refl (λ differ. not_found keys x (rest_worded y keys worded) is (sym (ap (λ (b : Bool). b || list_any (found_eq x) keys) differ) ∙ h) k e at same)
    where
      by : (b : Bool) → found_eq x y ≡ b → (found_eq x y ≡ false → ⊥) → ⊥
      by true equal later = true≢false (sym (ap (λ (b : Bool). b || list_any (found_eq x) keys) equal) ∙ h)
      by false differ later = later differ

  worded_push : (keys : List (Found State)) (x : Found State) → AreWordedKeys keys → IsWorded meaning words_of x → AreWordedKeys (keys ++ x ∷ [])
  worded_push keys x worded is f there =
      elim (Contains-push_cases keys x f there) [
        | inl old ↦ worded f old
        | inr same ↦ subst (λ (y : Found State). IsWorded meaning words_of y) same is
      ]

  module _ (keys : List (Found State)) (x : Found State) (worded : AreWordedKeys keys) (is : IsWorded meaning words_of x) (after : List (Found State)) (inserted : after ≡ insert_key found_eq keys x) where
    pub arrival : IsArrival (map (kept_in meaning) keys) (map (kept_in meaning) after) (kept_in meaning x)
    arrival = by (list_any (found_eq x) keys) refl
      where
        by : (b : Bool) → list_any (found_eq x) keys ≡ b → IsArrival (map (kept_in meaning) keys) (map (kept_in meaning) after) (kept_in meaning x)
        by true old = inl (has_found keys x worded is old, ap (map (kept_in meaning)) (inserted ∙ keys_kept found_eq keys x old))
        by false new = inr (
          (λ f. not_found keys x worded is new f.0 f.1 f.2 f.3),
          ap (map (kept_in meaning)) (inserted ∙ keys_pushed found_eq keys x new) ∙ map-append (kept_in meaning) keys (x ∷ []),
        )

    pub still_worded : AreWordedKeys after
    still_worded = by (list_any (found_eq x) keys) refl
      where
        by : (b : Bool) → list_any (found_eq x) keys ≡ b → AreWordedKeys after
        by true old = subst (λ (l : List (Found State)). AreWordedKeys l) (sym (inserted ∙ keys_kept found_eq keys x old)) worded
        by false new = subst (λ (l : List (Found State)). AreWordedKeys l) (sym (inserted ∙ keys_pushed found_eq keys x new)) (worded_push keys x worded is)

-- what holds of something that is there
pub some_at : {V : Type 0} (P : V → Type 0) (o : Option V) (v : V) → o ≡ Some v → IfSome o P → P v
some_at P None v e h = absurd (cc)
some_at P (Some x) v e h = subst P (same_Some x v e) h
