-- What is kept of the configurations that were found, by their words.
use Rattle.std.proofs.Common.{◌≡◌, refl, sym, ap, ◌∙◌, subst, ℕ, ◌<◌, suc, Bool, true, false, ◌||◌, ◌&&◌, List, [], ◌∷◌, ◌++◌, get_or, map, Option, option_map, Some, None, arith, inl, inr, if◌then◌else◌}
use Rattle.std.proofs.Math.Dec.{eqb}
use Rattle.std.proofs.lemmas.Bool.{cases_lt}
use Rattle.std.proofs.lemmas.Bool.Decides.{Decides-eqb}
use Rattle.std.proofs.lemmas.Slice.Eq.{slice_eq-Decides}
use Rattle.std.specs.Cmp.Lexicographic.{pointwise}
use Rattle.std.proofs.lemmas.List.Elements.{Contains-append_right, Contains-push_cases}
use Rattle.std.proofs.lemmas.Map.Keys.{apart_from_distinct}
use Rattle.std.proofs.lemmas.Option.{same_Some, slice_get_within, slice_get-map, get_or_from_slice_get}
use Rattle.std.specs.List.{slice_get, Contains, list_any, IsDistinct}
use Rattle.indexmap.specs.IndexSet.{insert_key}
use Rattle.wf_history.proofs.Positions.{place_of, contains_at}
use Rattle.wf_order.specs.declared.seen.Found.{Found}
use Rattle.wf_order.specs.Search.{found_in, IsWorded}
use Rattle.wf_order.specs.Steps.{Configuration}
use Rattle.wf_order.specs.Verdict.{AreApart}
use Rattle.wf_order.proofs.Lists.{same_configuration}

pub mapped_some : {X Y : Type 0} (f : X → Y) (o : Option X) (y : Y) → option_map f o ≡ Some y → (x : X) × (o ≡ Some x) × (f x ≡ y)
mapped_some f None y h = absurd (cc)
mapped_some f (Some x) y h = (x, refl, same_Some (f x) y h)

-- what `==` says of two that were found
module _ {State : Type 0} where
  abbrev pub found_eq : Found State → Found State → Bool
  found_eq a b = pointwise eqb a.counts.items b.counts.items && pointwise eqb a.words.items b.words.items

  pub found_exact : (a b : Found State) → found_eq a b ≡ true → (a.counts.items ≡ b.counts.items) × (a.words.items ≡ b.words.items)
  found_exact a b e = by (pointwise eqb a.counts.items b.counts.items) (pointwise eqb a.words.items b.words.items) refl refl e
    where
      by : (p q : Bool) → p ≡ pointwise eqb a.counts.items b.counts.items → q ≡ pointwise eqb a.words.items b.words.items → (p && q) ≡ true → (a.counts.items ≡ b.counts.items) × (a.words.items ≡ b.words.items)
      by true true is_p is_q h = (
        (slice_eq-Decides {E = eqb} Decides-eqb a.counts.items b.counts.items true is_p).0 refl,
        (slice_eq-Decides {E = eqb} Decides-eqb a.words.items b.words.items true is_q).0 refl,
      )
      by true false is_p is_q h = absurd (cc)
      by false q is_p is_q h = absurd (cc)

  pub found_alike : (a b : Found State) → a.counts.items ≡ b.counts.items → a.words.items ≡ b.words.items → found_eq a b ≡ true
  found_alike a b counts words =
      let p = (slice_eq-Decides {E = eqb} Decides-eqb a.counts.items b.counts.items (pointwise eqb a.counts.items b.counts.items) refl).1 counts in
      let q = (slice_eq-Decides {E = eqb} Decides-eqb a.words.items b.words.items (pointwise eqb a.words.items b.words.items) refl).1 words in
      ap (λ (x : Bool). x && pointwise eqb a.words.items b.words.items) p ∙ q

-- what a set's keys are after an insertion
module _ {K : Type 0} (eq : K → K → Bool) (keys : List K) (k : K) where
  pub keys_kept : list_any (eq k) keys ≡ true → insert_key eq keys k ≡ keys
  keys_kept there = ap (λ (b : Bool). if b then keys else keys ++ k ∷ []) there

  pub keys_pushed : list_any (eq k) keys ≡ false → insert_key eq keys k ≡ keys ++ k ∷ []
  keys_pushed new = ap (λ (b : Bool). if b then keys else keys ++ k ∷ []) new

module _ {State Meaning : Type 0} (meaning : State → Meaning) (words_of : Meaning → List ℕ) (told_apart : (a b : Meaning) → words_of a ≡ words_of b → a ≡ b) where
  abbrev AreWordedKeys : List (Found State) → Type 0
  AreWordedKeys keys = (f : Found State) → Contains keys f → IsWorded meaning words_of f

  same_view : (a b : Found State) → IsWorded meaning words_of a → IsWorded meaning words_of b → a.counts.items ≡ b.counts.items → a.words.items ≡ b.words.items → found_in meaning a ≡ found_in meaning b
  same_view a b is_a is_b counts words = same_configuration counts (told_apart (meaning a.state) (meaning b.state) (sym is_a ∙ words ∙ is_b))

  pub worded_push : (keys : List (Found State)) (x : Found State) → AreWordedKeys keys → IsWorded meaning words_of x → AreWordedKeys (keys ++ x ∷ [])
  worded_push keys x worded is f there =
      elim (Contains-push_cases keys x f there) [
        | inl old ↦ worded f old
        | inr same ↦ subst (λ (y : Found State). IsWorded meaning words_of y) same is
      ]

  module _ (eq : Found State → Found State → Bool) where
    -- what the set has was found
    pub seen_among : ((a b : Found State) → eq a b ≡ true → (a.counts.items ≡ b.counts.items) × (a.words.items ≡ b.words.items)) →
        (keys : List (Found State)) (x : Found State) → AreWordedKeys keys → IsWorded meaning words_of x → list_any (eq x) keys ≡ true → Contains (map (found_in meaning) keys) (found_in meaning x)
    seen_among exact [] x worded is h = absurd (cc)
    seen_among exact (y ∷ keys) x worded is h =
        by (eq x y) refl (λ e. seen_among exact keys x (λ f there. worded f (Contains-append_right (y ∷ []) keys f there)) is (sym (ap (λ (b : Bool). b || list_any (eq x) keys) e) ∙ h))
      where
        by : (b : Bool) → eq x y ≡ b → (eq x y ≡ false → Contains (map (found_in meaning) keys) (found_in meaning x)) → Contains (map (found_in meaning) (y ∷ keys)) (found_in meaning x)
        by true e later =
            let parts = exact x y e in
            contains_at (map (found_in meaning) (y ∷ keys)) 0 (found_in meaning x)
            (ap Some (sym (same_view x y is (worded y (contains_at (y ∷ keys) 0 y refl)) parts.0 parts.1)))
        by false e later = Contains-append_right (found_in meaning y ∷ []) (map (found_in meaning) keys) (found_in meaning x) (later e)

    module _ (alike : (a b : Found State) → a.counts.items ≡ b.counts.items → a.words.items ≡ b.words.items → eq a b ≡ true) (keys : List (Found State)) (worded : AreWordedKeys keys) (distinct : IsDistinct eq keys) where
      two_apart : (i j : ℕ) (a b : Found State) → i < j → slice_get keys i ≡ Some a → slice_get keys j ≡ Some b → found_in meaning a ≡ found_in meaning b → ⊥
      two_apart i j a b lt at_a at_b same =
          let inside = slice_get_within keys j b at_b in
          let differ = apart_from_distinct eq keys i j a distinct lt inside in
          let a_is = get_or_from_slice_get keys i a a at_a in
          let b_is = get_or_from_slice_get keys j b a at_b in
          let counts : a.counts.items ≡ b.counts.items = ap (λ (c : Configuration Meaning). c.counts) same in
          let states : meaning a.state ≡ meaning b.state = ap (λ (c : Configuration Meaning). c.state) same in
          let words : a.words.items ≡ b.words.items = worded a (contains_at keys i a at_a) ∙ ap words_of states ∙ sym (worded b (contains_at keys j b at_b)) in
          let equal = alike a b counts words in
          let e : eq a b ≡ false = ap (λ (x : Found State). eq x b) (sym a_is) ∙ ap (λ (x : Found State). eq (get_or keys i a) x) (sym b_is) ∙ differ in
          absurd (cc)

      -- what was found stands at one place
      pub found_once : (i j : ℕ) (c : Configuration Meaning) → slice_get (map (found_in meaning) keys) i ≡ Some c → slice_get (map (found_in meaning) keys) j ≡ Some c → i ≡ j
      found_once i j c at_i at_j =
          let a = mapped_some (found_in meaning) (slice_get keys i) c (sym (slice_get-map (found_in meaning) keys i) ∙ at_i) in
          let b = mapped_some (found_in meaning) (slice_get keys j) c (sym (slice_get-map (found_in meaning) keys j) ∙ at_j) in
          elim (cases_lt i j) [
            | inl lt ↦ absurd (two_apart i j a.0 b.0 lt a.1 b.1 (a.2 ∙ sym b.2))
            | inr ge ↦ elim (cases_lt j i) [
              | inl lt ↦ absurd (two_apart j i b.0 a.0 lt b.1 a.1 (b.2 ∙ sym a.2))
              | inr le ↦ omega (arith, ge, le)
            ]
          ]

    -- no two that were found are the same
    pub found_apart : ((a b : Found State) → a.counts.items ≡ b.counts.items → a.words.items ≡ b.words.items → eq a b ≡ true) →
        (keys : List (Found State)) → AreWordedKeys keys → IsDistinct eq keys → AreApart (map (found_in meaning) keys)
    found_apart alike keys worded distinct = apart_at keys (two_apart alike keys worded distinct)
      where
        apart_at : (ks : List (Found State)) → ((i j : ℕ) (a b : Found State) → i < j → slice_get ks i ≡ Some a → slice_get ks j ≡ Some b → found_in meaning a ≡ found_in meaning b → ⊥) → AreApart (map (found_in meaning) ks)
        apart_at [] differ = tt
        apart_at (x ∷ ks) differ = (
          (λ c.
              let p = place_of (map (found_in meaning) ks) (found_in meaning x) c in
              let y = mapped_some (found_in meaning) (slice_get ks p.0) (found_in meaning x) (sym (slice_get-map (found_in meaning) ks p.0) ∙ p.1) in
              differ 0 (suc p.0) x y.0 (omega arith) refl y.1 (sym y.2)),
          apart_at ks (λ i j a b lt at_a at_b. differ (suc i) (suc j) a b (omega (arith, lt)) at_a at_b),
        )
