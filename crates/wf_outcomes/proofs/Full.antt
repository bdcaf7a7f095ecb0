-- The places at which all calls are made.
use Rattle.std.proofs.Common.{◌≡◌, refl, sym, ap, ◌∙◌, subst, ℕ, ◌+◌, ◌<◌, ◌≤◌, List, [], ◌∷◌, ◌++◌, length, map, Some, arith, inl, inr}
use Rattle.std.proofs.lemmas.Bool.{cases_eq}
use Rattle.std.proofs.lemmas.Option.{slice_get_within}
use Rattle.std.specs.List.{slice_get}
use Rattle.wf_history.proofs.Positions.{place_push, place_left, place_here, one_item}
use Rattle.wf_outcomes.specs.Merges.{Configuration, full, IsReached}
use Rattle.wf_outcomes.specs.Explored.{Kept, IsExplored}
use Rattle.wf_outcomes.specs.Outcomes.{AreFinals}
use Rattle.wf_outcomes.proofs.OutcomesLists.{same_configuration}

-- these are the places below a bound at which the counts are these
pub record AreFull {State : Type 0} (found : List (Kept State)) (counts places : List ℕ) (bound : ℕ) : Type 0 where
  pub listed : (n k : ℕ) → slice_get places n ≡ Some k → (e : Kept State) × (slice_get found k ≡ Some e) × (e.here.counts ≡ counts) × (k < bound)
  pub every : (k : ℕ) (e : Kept State) → k < bound → slice_get found k ≡ Some e → e.here.counts ≡ counts → (n : ℕ) × (slice_get places n ≡ Some k)
  pub once : (m n k : ℕ) → slice_get places m ≡ Some k → slice_get places n ≡ Some k → m ≡ n

pub full_none : {State : Type 0} (found : List (Kept State)) (counts places : List ℕ) → places ≡ [] → AreFull found counts places 0
full_none found counts places none = record {
  listed = λ n k at. let e : slice_get [] n ≡ Some k = ap (λ (l : List ℕ). slice_get l n) (sym none) ∙ at in absurd (cc);
  every = λ k e lt at is. absurd (omega (arith, lt));
  once = λ m n k at also. let e : slice_get [] m ≡ Some k = ap (λ (l : List ℕ). slice_get l m) (sym none) ∙ at in absurd (cc);
}

module _ {State : Type 0} (found : List (Kept State)) (counts places : List ℕ) (bound : ℕ) (h : AreFull found counts places bound) (e : Kept State) (at : slice_get found bound ≡ Some e) where
  pub full_less : (e.here.counts ≡ counts → ⊥) → AreFull found counts places (bound + 1)
  full_less less = record {
    listed = λ n k there. let r = h.listed n k there in (r.0, r.1, r.2, let lt = r.3 in omega (arith, lt));
    every = λ k f lt there is. elim (cases_eq k bound) [
      | inl same ↦ absurd (less (ap (λ (x : Kept State). x.here.counts) (one_item found bound e f at (ap (slice_get found) (sym same) ∙ there)) ∙ is))
      | inr other ↦ h.every k f (omega (arith, lt, other)) there is
    ];
    once = h.once;
  }

  pub full_more : e.here.counts ≡ counts → (after : List ℕ) → after ≡ places ++ bound ∷ [] → AreFull found counts after (bound + 1)
  full_more more after is_after = subst (λ (l : List ℕ). AreFull found counts l (bound + 1)) (sym is_after) (record {
    listed = λ n k there. elim (place_push places bound n k there) [
      | inl old ↦ let r = h.listed n k old in (r.0, r.1, r.2, let lt = r.3 in omega (arith, lt))
      | inr now ↦ let same = now.1 in (e, ap (slice_get found) (sym same) ∙ at, more, omega (arith, same))
    ];
    every = λ k f lt there is. elim (cases_eq k bound) [
      | inl same ↦ (length places, place_here places [] bound ∙ ap Some (sym same))
      | inr other ↦ let r = h.every k f (omega (arith, lt, other)) there is in (r.0, place_left places (bound ∷ []) r.0 k r.1)
    ];
    once = λ m n k there also. elim (place_push places bound m k there) [
      | inl one ↦ elim (place_push places bound n k also) [
        | inl two ↦ h.once m n k one two
        | inr two ↦ let r = h.listed m k one in let lt = r.3 in let same = two.1 in absurd (omega (arith, lt, same))
      ]
      | inr one ↦ elim (place_push places bound n k also) [
        | inl two ↦ let r = h.listed n k two in let lt = r.3 in let same = one.1 in absurd (omega (arith, lt, same))
        | inr two ↦ one.0 ∙ sym two.0
      ]
    ];
  })

module _ {State Call Reply : Type 0} (Effect : Call → State → State → Reply → Type 0) (scripts : List (List Call)) (opening : State) (found : List (Kept State)) (h : IsExplored Effect scripts opening found) where
  pub full_all : (counts places : List ℕ) (bound : ℕ) → counts ≡ map length scripts → AreFull found counts places bound → length found ≤ bound → AreFinals Effect scripts opening found places
  full_all counts places bound is a end = record {
    final = λ n k at.
        let r = a.listed n k at in
        let e = r.0 in
        let whole : e.here ≡ full Effect scripts e.here.state = same_configuration (r.2 ∙ is) refl in
        (e, r.1, whole, subst (λ (c : Configuration State). IsReached Effect scripts opening c) whole (h.reached k e r.1));
    every = λ last reached.
        let f = h.complete (full Effect scripts last) reached in
        let within = slice_get_within found f.0 f.1 f.2 in
        let r = a.every f.0 f.1 (omega (arith, within, end)) f.2 (ap (λ (c : Configuration State). c.counts) f.3 ∙ sym is) in
        (r.0, f.0, f.1, r.1, f.2, ap (λ (c : Configuration State). c.state) f.3);
    once = λ m n j k e f at also there too same.
        let r = a.listed m j at in
        let s = a.listed n k also in
        let one = ap (λ (x : Kept State). x.here.counts) (one_item found j r.0 e r.1 there) in
        let two = ap (λ (x : Kept State). x.here.counts) (one_item found k s.0 f s.1 too) in
        let places_same = h.once j k e f there too (same_configuration (sym one ∙ r.2 ∙ sym s.2 ∙ two) same) in
        a.once m n k (at ∙ ap Some places_same) also;
  }
