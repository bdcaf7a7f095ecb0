-- The lowest stranger among seats, one seat more.
use Rattle.std.proofs.Common.{◌≡◌, ◌∙◌, ℕ, ◌+◌, ◌<◌, ◌≤◌, ◌⊎◌, All, List, [], ◌∷◌, MatchOption, Option, Some, None, arith, get_or, inl, inr, length, min, subst, sym, take, ⊎_elim}
use Rattle.std.specs.Prelude.{Contains}
use Rattle.std.proofs.lemmas.Bool.{cases_lt}
use Rattle.std.proofs.lemmas.List.{take_more}
use Rattle.std.proofs.lemmas.List.Elements.{All-more, All-weaker, Contains-append_left, Contains-append_right}
use Rattle.ob_desk_floor.specs.Close.{IsLowestStranger, IsOwn}
use Rattle.ob_desk_floor.specs.Desk.{Desk}
use Rattle.ob_desk_floor.specs.Seat.{Seat}

-- of the first so many seats
abbrev pub Found : {Code : Type 0} → Desk Code → List Seat → ℕ → Option ℕ → Type 0
Found d seats k first = MatchOption first (All (IsOwn d) (take k seats)) (IsLowestStranger d (take k seats))

module _ {Code : Type 0} (d : Desk Code) (seats : List Seat) (i : ℕ) (s : Seat) (lt : i < length seats) (is : s ≡ get_or seats i s) where
  abbrev OwnOrFrom : ℕ → Seat → Type 0
  OwnOrFrom p x = IsOwn d x ⊎ (p ≤ x.process)

  earlier : (x : Seat) → Contains (take i seats) x → Contains (take (i + 1) seats) x
  earlier x there = subst (λ (l : List Seat). Contains l x) (sym (take_more seats i s lt)) (Contains-append_left (take i seats) (get_or seats i s ∷ []) x there)

  last : Contains (take (i + 1) seats) s
  last = subst (λ (l : List Seat). Contains l s) (sym (take_more seats i s lt)) (Contains-append_right (take i seats) (get_or seats i s ∷ []) s (0, omega arith, sym is))

  pub own_next : (first : Option ℕ) → IsOwn d s → Found d seats i first → Found d seats (i + 1) first
  own_next None own h = All-more (IsOwn d) seats i s lt h (subst (IsOwn d) is own)
  own_next (Some p) own h = record {
    seat = h.seat;
    there = earlier h.seat h.there;
    stranger = h.stranger;
    is = h.is;
    others = All-more (OwnOrFrom p) seats i s lt h.others (subst (OwnOrFrom p) is (inl own));
  }

  -- a stranger is the last one, and the lowest of all so far
  by_last : (low : ℕ) → ¬ (IsOwn d s) → s.process ≡ low → All (OwnOrFrom low) (take i seats) → IsLowestStranger d (take (i + 1) seats) low
  by_last low apart same others = record {
    seat = s;
    there = last;
    stranger = apart;
    is = same;
    others = All-more (OwnOrFrom low) seats i s lt others (subst (OwnOrFrom low) is (inr (omega (arith, same))));
  }

  below : (q low : ℕ) → low ≤ q → (x : Seat) → OwnOrFrom q x → OwnOrFrom low x
  below q low le x (inl own) = inl own
  below q low le x (inr from) = inr (omega (arith, le, from))

  pub stranger_next : (first : Option ℕ) (low : ℕ) → ¬ (IsOwn d s) → MatchOption first (low ≡ s.process) (λ q. low ≡ min q s.process) → Found d seats i first → Found d seats (i + 1) (Some low)
  stranger_next None low apart lowest h = by_last low apart (sym lowest) (All-weaker (IsOwn d) (OwnOrFrom low) (λ x own. inl own) (take i seats) h)
  stranger_next (Some q) low apart lowest h =
      let le : low ≤ q = omega (arith, lowest) in
      let others : All (OwnOrFrom low) (take i seats) = All-weaker (OwnOrFrom q) (OwnOrFrom low) (below q low le) (take i seats) h.others in
      ⊎_elim
      (λ more. by_last low apart (omega (arith, more, lowest)) others)
      (λ less. let same : q ≡ low = omega (arith, less, lowest) in record {
        seat = h.seat;
        there = earlier h.seat h.there;
        stranger = h.stranger;
        is = h.is ∙ same;
        others = All-more (OwnOrFrom low) seats i s lt others (subst (OwnOrFrom low) is (inr (omega (arith, less, same))));
      })
      (cases_lt s.process q)
