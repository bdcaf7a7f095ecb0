-- The place of a process among the names, as the set of names tells it.
use Rattle.std.proofs.Common.{◌≡◌, ◌∙◌, ℕ, ◌+◌, ◌<◌, ◌≤◌, ◌||◌, zero, suc, not, Bool, true, false, cond, List, [], ◌∷◌, ◌++◌, ◌⊎◌, inl, inr, Some, None, length, get_or, slice_get, refl, sym, ap, subst, arith, eq-eqb}
use Rattle.std.proofs.lemmas.Bool.{eqb-true, false≢true, ltb-false, ltb-true}
use Rattle.std.proofs.lemmas.Option.{same_Some}
use Rattle.std.proofs.Math.Dec.{eqb, ltb}
use Rattle.std.specs.List.{Contains, list_any, position, position_or_len}
use Rattle.indexmap.specs.IndexSet.{insert_key}
use Rattle.ob_interface.specs.Call.{ObjectCall}
use Rattle.ob_text_reading.specs.HistoryLines.{most_different}
use Rattle.ob_text_reading.specs.Names.{AreNamed, IsPlaceOf, MayCome, Naming, events_of, known, new}
use Rattle.ob_text_reading.proofs.Growing.{Grown, as_before, grown, longer, one_too_many}
use Rattle.ob_text_reading.proofs.Naming.{low_or_not}
use Rattle.wf_history.specs.declared.event.CallId.{CallId}
use Rattle.wf_history.specs.History.{Begin}

-- a process has a place, the first one at which its name stands, or its name stands nowhere
pub data Sought (names : List ℕ) (q : ℕ) : Type 0 where
  found : list_any (eqb q) names ≡ true → position_or_len (eqb q) names < length names → slice_get names (position_or_len (eqb q) names) ≡ Some q → Sought names q
  missing : list_any (eqb q) names ≡ false → position_or_len (eqb q) names ≡ length names → ¬ Contains names q → Sought names q

not_among : (n : ℕ) (names : List ℕ) (q : ℕ) → eqb q n ≡ false → ¬ Contains names q → (k : ℕ) → k < suc (length names) → get_or (n ∷ names) k q ≡ q → ⊥
not_among n names q e none zero below at = false≢true (sym e ∙ eq-eqb q n (sym at))
not_among n names q e none (suc k) below at = none (k, omega (arith, below), at)

pub sought : (names : List ℕ) (q : ℕ) → Sought names q
sought [] q = missing refl refl (λ c. let below = c.1 in omega (arith, below))
sought (n ∷ names) q = by_first (eqb q n) refl (sought names q)
  where
    by_first : (t : Bool) → eqb q n ≡ t → Sought names q → Sought (n ∷ names) q
    by_first true e s =
        let place : position_or_len (eqb q) (n ∷ names) ≡ 0 = ap (λ t. cond (not t) (1 + position_or_len (eqb q) names) 0) e in
        found (ap (λ t. t || list_any (eqb q) names) e) (omega (arith, place))
        (ap (slice_get (n ∷ names)) place ∙ ap (λ x. Some x) (sym (eqb-true q n e)))
    by_first false e (found any low at) =
        let place : position_or_len (eqb q) (n ∷ names) ≡ suc (position_or_len (eqb q) names) =
        ap (λ t. cond (not t) (1 + position_or_len (eqb q) names) 0) e ∙ omega arith in
        found (ap (λ t. t || list_any (eqb q) names) e ∙ any) (omega (arith, place, low)) (ap (slice_get (n ∷ names)) place ∙ at)
    by_first false e (missing any end none) =
        let place : position_or_len (eqb q) (n ∷ names) ≡ suc (position_or_len (eqb q) names) =
        ap (λ t. cond (not t) (1 + position_or_len (eqb q) names) 0) e ∙ omega arith in
        missing (ap (λ t. t || list_any (eqb q) names) e ∙ any) (place ∙ ap suc end) (λ c. not_among n names q e none c.0 c.1 c.2)

some_place : (t : Bool) (n p : ℕ) → cond t (Some n) None ≡ Some p → n ≡ p
some_place true n p e = same_Some n p e
some_place false n p e = absurd (cc)

no_place : (t : Bool) (n : ℕ) → cond t (Some n) None ≡ None → t ≡ false
no_place true n e = absurd (cc)
no_place false n e = refl

pub known_place : (names : List ℕ) (q p : ℕ) → position (eqb q) names ≡ Some p → slice_get names p ≡ Some q
known_place names q p e = by_sought (sought names q)
  where
    by_sought : Sought names q → slice_get names p ≡ Some q
    by_sought (found any low at) = ap (slice_get names) (sym (some_place (ltb (position_or_len (eqb q) names) (length names)) (position_or_len (eqb q) names) p e)) ∙ at
    by_sought (missing any end none) = absurd (past (ltb (position_or_len (eqb q) names) (length names)) refl e)
      where
        past : (t : Bool) → ltb (position_or_len (eqb q) names) (length names) ≡ t → cond t (Some (position_or_len (eqb q) names)) None ≡ Some p → ⊥
        past true is e = let low = ltb-true (position_or_len (eqb q) names) (length names) is in omega (arith, low, end)
        past false is e = cc

pub unknown_place : (names : List ℕ) (q : ℕ) → position (eqb q) names ≡ None → ¬ Contains names q
unknown_place names q e = by_sought (sought names q)
  where
    by_sought : Sought names q → ¬ Contains names q
    by_sought (found any low at) =
        absurd (let past = ltb-false (position_or_len (eqb q) names) (length names) (no_place (ltb (position_or_len (eqb q) names) (length names)) (position_or_len (eqb q) names) e) in omega (arith, past, low))
    by_sought (missing any end none) = none

-- the names with one more, if it is new
pub grown_set : (names next : List ℕ) (q p : ℕ) → next ≡ insert_key eqb names q → p ≡ position_or_len (eqb q) names → Grown names q p next
grown_set names next q p keys place =
    subst (λ (ks : List ℕ). Grown names q p ks) (sym keys) (subst (λ (k : ℕ). Grown names q k (insert_key eqb names q)) (sym place) (by_sought (sought names q)))
  where
    by_sought : Sought names q → Grown names q (position_or_len (eqb q) names) (insert_key eqb names q)
    by_sought (found any low at) =
        subst (λ (t : Bool). Grown names q (position_or_len (eqb q) names) (cond t names (names ++ q ∷ []))) (sym any) (as_before at)
    by_sought (missing any end none) =
        subst (λ (t : Bool). Grown names q (position_or_len (eqb q) names) (cond t names (names ++ q ∷ []))) (sym any) (longer end none)

module _ (n : Naming) (a : AreNamed n) (i : CallId) (call : ObjectCall) (may : MayCome (events_of n) (Begin i call)) (next : List ℕ) (place : ℕ) (g : Grown n.names i.process place next) where
  -- who may begin a call has a place
  place_for : IsPlaceOf n.names i.process place
  place_for = by_grown g
    where
      by_grown : {ks : List ℕ} → Grown n.names i.process place ks → IsPlaceOf n.names i.process place
      by_grown (as_before at) = known at
      by_grown (longer is none) = by_room (low_or_not (length n.names) most_different)
        where
          by_room : (length n.names < most_different) ⊎ (most_different ≤ length n.names) → IsPlaceOf n.names i.process place
          by_room (inl low) = new is (omega (arith, is, low)) none
          by_room (inr full) = absurd (one_too_many n a i call (record { full = full; new = none }) may.few)

  pub place_below : place < most_different
  place_below = by_place place_for
    where
      by_place : IsPlaceOf n.names i.process place → place < most_different
      by_place (known at) = let within = (grown a.apart (as_before at)).within in let few = a.few in omega (arith, within, few)
      by_place (new is low none) = low

  pub begins_at : IsPlaceOf n.names i.process place
  begins_at = place_for

  pub few_names : length next ≤ most_different
  few_names = by_grown g place_below
    where
      by_grown : {ks : List ℕ} → Grown n.names i.process place ks → place < most_different → length ks ≤ most_different
      by_grown (as_before at) low = a.few
      by_grown (longer is none) low = let long = (grown a.apart (longer is none)).no_more in omega (arith, is, low, long)
