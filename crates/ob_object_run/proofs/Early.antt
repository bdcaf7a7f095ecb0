-- The search for a call that began too late, from the end of the list.
use Rattle.std.proofs.Common.{◌≡◌, refl, sym, ap, ◌∙◌, subst, ℕ, ◌+◌, ◌^◌, ◌<◌, ◌≤◌, min, List, length, Option, Some, None, arith, inl, inr}
use Rattle.std.proofs.lemmas.Bool.{cases_lt}
use Rattle.std.proofs.lemmas.Option.{same_Some, slice_get_within}
use Rattle.std.specs.Prelude.{slice_get, MatchOption}
use Rattle.wf_history.specs.declared.event.CallId.{CallId}
use Rattle.ob_object_run.specs.declared.event_places.Placed.{Placed}
use Rattle.ob_object_run.specs.OrderFaults.{IsFirst, IsNowhere}
use Rattle.ob_object_run.specs.Places.{BeginsTooLate}
use Rattle.wf_history.proofs.Positions.{one_item}

-- an End before this number stands from a place on
abbrev EndsBefore : List Placed → ℕ → ℕ → Type 0
EndsBefore placed from n = (place : ℕ) × (x : Placed) × (end : ℕ) × (from ≤ place) × (slice_get placed place ≡ Some x) × (x.end ≡ Some end) × (end < n)

-- of the Ends from a place on this is the least, and the greatest number of its type where there is none
pub record IsLeast (placed : List Placed) (from least : ℕ) : Type 0 where
  pub below : (place : ℕ) (x : Placed) (end : ℕ) → from ≤ place → slice_get placed place ≡ Some x → x.end ≡ Some end → least ≤ end
  pub stands : (n : ℕ) → n < 2 ^ 64 → least < n → EndsBefore placed from n

-- the first call from a place on that began too late
pub record IsFound (placed : List Placed) (from : ℕ) (id : CallId) : Type 0 where
  pub item : Placed
  pub named : item.id ≡ id
  pub place : ℕ
  pub behind : from ≤ place
  pub here : slice_get placed place ≡ Some item
  pub late : BeginsTooLate placed place item
  pub earlier : (k : ℕ) (other : Placed) → from ≤ k → k < place → slice_get placed k ≡ Some other → ¬ BeginsTooLate placed k other

abbrev pub IsFirstFrom : List Placed → ℕ → Option CallId → Type 0
IsFirstFrom placed from first =
    MatchOption first ((k : ℕ) (other : Placed) → from ≤ k → slice_get placed k ≡ Some other → ¬ BeginsTooLate placed k other) (IsFound placed from)

module _ (placed : List Placed) where
  pub least_none : (from least : ℕ) → length placed ≤ from → least + 1 ≡ 2 ^ 64 → IsLeast placed from least
  least_none from least out is = record {
    below = λ place x end le here ends. let in' = slice_get_within placed place x here in absurd (omega arith);
    stands = λ n fits lt. absurd (omega arith);
  }

  pub first_none : (from : ℕ) → length placed ≤ from → IsFirstFrom placed from None
  first_none from out k other le here late = let in' = slice_get_within placed k other here in absurd (omega arith)

  module _ (k : ℕ) (x : Placed) (here : slice_get placed k ≡ Some x) where
    pub least_same : (least : ℕ) → x.end ≡ None → IsLeast placed (k + 1) least → IsLeast placed k least
    least_same least still h = record {
      below = λ place y end le at ends. elim (cases_lt k place) [
        | inl lt ↦ h.below place y end (omega arith) at ends
        | inr ge ↦ let same : place ≡ k = omega arith in
            let item = one_item placed k x y here (subst (λ (n : ℕ). slice_get placed n ≡ Some y) same at) in
            let closed : x.end ≡ Some end = ap (λ (z : Placed). z.end) item ∙ ends in absurd (cc)
      ];
      stands = λ n fits lt. let e = h.stands n fits lt in let le = e.3 in (e.0, e.1, e.2, omega arith, e.4, e.5, e.6);
    }

    pub least_more : (least end : ℕ) → x.end ≡ Some end → IsLeast placed (k + 1) least → IsLeast placed k (min least end)
    least_more least end closed h = record {
      below = λ place y other le at ends. elim (cases_lt k place) [
        | inl lt ↦ let less = h.below place y other (omega arith) at ends in omega arith
        | inr ge ↦ let same : place ≡ k = omega arith in
            let item = one_item placed k x y here (subst (λ (n : ℕ). slice_get placed n ≡ Some y) same at) in
            let both : Some end ≡ Some other = sym closed ∙ ap (λ (z : Placed). z.end) item ∙ ends in
            let one = same_Some end other both in omega arith
      ];
      stands = λ n fits lt. elim (cases_lt least n) [
        | inl less ↦ let e = h.stands n fits less in let le = e.3 in (e.0, e.1, e.2, omega arith, e.4, e.5, e.6)
        | inr ge ↦ (k, x, end, omega arith, here, closed, omega arith)
      ];
    }

    -- whether the call here began too late
    late_here : (least : ℕ) → x.begin < 2 ^ 64 → IsLeast placed (k + 1) least → least < x.begin → BeginsTooLate placed k x
    late_here least fits h lt = let e = h.stands x.begin fits lt in let le = e.3 in (e.0, e.1, e.2, omega arith, e.4, e.5, e.6)

    not_late_here : (least : ℕ) → IsLeast placed (k + 1) least → x.begin ≤ least → BeginsTooLate placed k x → ⊥
    not_late_here least h le (place, y, end, behind, at, ends, lt) =
        let less = h.below place y end (omega arith) at ends in omega arith

    pub first_here : (least : ℕ) → x.begin < 2 ^ 64 → IsLeast placed (k + 1) least → least < x.begin → IsFirstFrom placed k (Some x.id)
    first_here least fits h lt = record {
      item = x;
      named = refl;
      place = k;
      behind = omega arith;
      here = here;
      late = late_here least fits h lt;
      earlier = λ j other le less at late. absurd (omega arith);
    }

    others : (least : ℕ) → IsLeast placed (k + 1) least → x.begin ≤ least → (j : ℕ) (other : Placed) → slice_get placed j ≡ Some other → j ≤ k → k ≤ j → BeginsTooLate placed j other → ⊥
    others least h le j other at upto from late =
        let same : j ≡ k = omega arith in
        let item = one_item placed k other x (subst (λ (n : ℕ). slice_get placed n ≡ Some other) same at) here in
        not_late_here least h le (subst (λ (y : Placed). BeginsTooLate placed k y) item (subst (λ (n : ℕ). BeginsTooLate placed n other) same late))

    pub first_same : (least : ℕ) (first : Option CallId) → IsLeast placed (k + 1) least → x.begin ≤ least → IsFirstFrom placed (k + 1) first → IsFirstFrom placed k first
    first_same least None h le none = λ j other from at late. elim (cases_lt k j) [
      | inl lt ↦ none j other (omega arith) at late
      | inr ge ↦ others least h le j other at ge from late
    ]
    first_same least (Some id) h le found = record {
      item = found.item;
      named = found.named;
      place = found.place;
      behind = let b = found.behind in omega arith;
      here = found.here;
      late = found.late;
      earlier = λ j other from less at late. elim (cases_lt k j) [
        | inl lt ↦ found.earlier j other (omega arith) less at late
        | inr ge ↦ others least h le j other at ge from late
      ];
    }

  pub first_of_all : (first : Option CallId) → IsFirstFrom placed 0 first →
      MatchOption first (IsNowhere (BeginsTooLate placed) placed) (λ id. (x : Placed) × (x.id ≡ id) × IsFirst (BeginsTooLate placed) placed x)
  first_of_all None none = λ k other at late. none k other (omega arith) at late
  first_of_all (Some id) found = (
    found.item,
    found.named,
    record {
      place = found.place;
      here = found.here;
      holds = found.late;
      earlier = λ k other lt at. found.earlier k other (omega arith) lt at;
    },
  )
