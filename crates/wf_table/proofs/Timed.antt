-- One event more keeps time order.
use Rattle.std.proofs.Common.{◌≡◌, ℕ, zero, suc, ◌+◌, ◌<◌, List, [], ◌∷◌, ◌++◌, length, get_or, refl, sym, ap, ◌∙◌, arith, inl, inr, subst, length-append}
use Rattle.std.specs.Prelude.{◌⊎◌}
use Rattle.std.specs.List.{Contains}
use Rattle.std.proofs.lemmas.Bool.{cases_lt}
use Rattle.std.proofs.lemmas.List.{length_push, get_or_append_left, get_or-append-add}
use Rattle.std.proofs.Math.Seq.{get_or-append_seam}
use Rattle.std.proofs.lemmas.List.Elements.{Contains-append_cases, Contains-append_left}
use Rattle.ob_interface.specs.Call.{ObjectCall, Reply}
use Rattle.wf_history.specs.declared.event.CallId.{CallId}
use Rattle.wf_history.specs.History.{Event, Begin, Applied, End, Before, before}
use Rattle.wf_history.specs.Legal.{NoRepeats}
use Rattle.wf_table.specs.Order.{IsAt, Precedes, IsTimed}

module _ {X : Type 0} where
  at_left : (xs ys : List X) (k : ℕ) (x : X) → IsAt xs k x → IsAt (xs ++ ys) k x
  at_left xs ys k x h = (omega (arith, h.0, length-append xs ys), get_or_append_left xs ys x k h.0 ∙ h.1)

  at_right : (xs ys : List X) (k : ℕ) (x : X) → IsAt ys k x → IsAt (xs ++ ys) (length xs + k) x
  at_right xs ys k x h = (omega (arith, h.0, length-append xs ys), get_or-append-add xs ys k x ∙ h.1)

  at_push : (xs : List X) (y : X) (k : ℕ) (x : X) → IsAt (xs ++ y ∷ []) k x → IsAt xs k x ⊎ ((k ≡ length xs) × (y ≡ x))
  at_push xs y k x h = elim (cases_lt k (length xs)) [
    | inl lt ↦ inl (lt, sym (get_or_append_left xs (y ∷ []) x k lt) ∙ h.1)
    | inr le ↦ (let last : k ≡ length xs = omega (arith, le, h.0, length_push xs y) in inr (last, sym (get_or-append_seam xs y [] x) ∙ ap (λ (i : ℕ). get_or (xs ++ y ∷ []) i x) (sym last) ∙ h.1))
  ]

  -- the element in a split
  at_seam : (xs ys : List X) (x : X) → IsAt (xs ++ x ∷ ys) (length xs) x
  at_seam xs ys x = (omega (arith, length-append xs (x ∷ ys)), get_or-append_seam xs x ys x)

abbrev Events : Type 0
Events = List (Event ObjectCall Reply)

module _ (history : Events) (order : List CallId) (h : IsTimed history order) where
  -- events of before
  both_old : (event : Event ObjectCall Reply) (i j : ℕ) (a b : CallId) (reply : Reply) (call : ObjectCall) → i < j → IsAt (history ++ event ∷ []) i (End a reply) → IsAt history j (Begin b call) → IsAt history i (End a reply)
  both_old event i j a b reply call less first then = elim (at_push history event i (End a reply) first) [
    | inl old ↦ old
    | inr new ↦ absurd (omega (arith, less, new.0, then.0))
  ]

  pub time_begins : (id : CallId) (call : ObjectCall) → ¬ Contains order id → IsTimed (history ++ Begin id call ∷ []) order
  time_begins id call none = record {
    ended = λ i a reply at. elim (at_push history (Begin id call) i (End a reply) at) [
      | inl old ↦ h.ended i a reply old
      | inr new ↦ (let e = new.1 in absurd (cc))
    ];
    in_time = λ i j a b reply other less first then within. elim (at_push history (Begin id call) j (Begin b other) then) [
      | inl old ↦ h.in_time i j a b reply other less (both_old (Begin id call) i j a b reply other less first old) old within
      | inr new ↦ (let e = new.1 in let same : b ≡ id = cc in absurd (none (subst (Contains order) same within)))
    ];
  }

  pub time_ends : (id : CallId) (answer : Reply) → Contains order id → IsTimed (history ++ End id answer ∷ []) order
  time_ends id answer some = record {
    ended = λ i a reply at. elim (at_push history (End id answer) i (End a reply) at) [
      | inl old ↦ h.ended i a reply old
      | inr new ↦ (let e = new.1 in let same : id ≡ a = cc in subst (Contains order) same some)
    ];
    in_time = λ i j a b reply other less first then within. elim (at_push history (End id answer) j (Begin b other) then) [
      | inl old ↦ h.in_time i j a b reply other less (both_old (End id answer) i j a b reply other less first old) old within
      | inr new ↦ (let e = new.1 in absurd (cc))
    ];
  }

  -- a call that is in the order stays before those that come behind
  behind : (ids : List CallId) (a b : CallId) → Contains order a → Contains ids b → Precedes (order ++ ids) a b
  behind ids a b first then = (first.0, length order + then.0, omega (arith, first.1), at_left order ids first.0 a (first.1, first.2), at_right order ids then.0 b (then.1, then.2))

  stays_before : (ids : List CallId) (a b : CallId) → Precedes order a b → Precedes (order ++ ids) a b
  stays_before ids a b p = (p.0, p.1, p.2, at_left order ids p.0 a p.3, at_left order ids p.1 b p.4)

  pub time_applies : (ids : List CallId) → IsTimed (history ++ Applied ids ∷ []) (order ++ ids)
  time_applies ids = record {
    ended = λ i a reply at. elim (at_push history (Applied ids) i (End a reply) at) [
      | inl old ↦ Contains-append_left order ids a (h.ended i a reply old)
      | inr new ↦ (let e = new.1 in absurd (cc))
    ];
    in_time = λ i j a b reply other less first then within. elim (at_push history (Applied ids) j (Begin b other) then) [
      | inl old ↦ (let early = both_old (Applied ids) i j a b reply other less first old in elim (Contains-append_cases order ids b within) [
        | inl before_it ↦ stays_before ids a b (h.in_time i j a b reply other less early old before_it)
        | inr new_one ↦ behind ids a b (h.ended i a reply early) new_one
      ])
      | inr new ↦ (let e = new.1 in absurd (cc))
    ];
  }

-- without repeats a call has one place
one_place : (ids : List CallId) (i j : ℕ) (x : CallId) → NoRepeats ids → IsAt ids i x → IsAt ids j x → i ≡ j
one_place [] i j x once a b = absurd (omega (arith, a.0))
one_place (y ∷ ys) zero zero x once a b = refl
one_place (y ∷ ys) zero (suc j) x once a b = absurd (once.0 (subst (Contains ys) (sym a.1) (j, omega (arith, b.0), b.1)))
one_place (y ∷ ys) (suc i) zero x once a b = absurd (once.0 (subst (Contains ys) (sym b.1) (i, omega (arith, a.0), a.1)))
one_place (y ∷ ys) (suc i) (suc j) x once a b = ap suc (one_place ys i j x once.1 (omega (arith, a.0), a.1) (omega (arith, b.0), b.1))

-- of two calls of the order the later one did not end before the earlier one began
pub never_before : (history : Events) (order first second third : List CallId) (a b : CallId) → NoRepeats order → IsTimed history order → order ≡ first ++ a ∷ (second ++ b ∷ third) → ¬ Before history b a
never_before history order first second third a b once h split (before reply call early between late e) =
    let place_a : IsAt order (length first) a = subst (λ (ids : List CallId). IsAt ids (length first) a) (sym split) (at_seam first (second ++ b ∷ third) a) in
    let place_b : IsAt order (length first + suc (length second)) b = subst (λ (ids : List CallId). IsAt ids (length first + suc (length second)) b) (sym split) (at_right first (a ∷ (second ++ b ∷ third)) (suc (length second)) b (let seam = at_seam second third b in (omega (arith, seam.0), seam.1))) in
    let ends : IsAt history (length early) (End b reply) = subst (λ (es : Events). IsAt es (length early) (End b reply)) (sym e) (at_seam early (between ++ Begin a call ∷ late) (End b reply)) in
    let begins : IsAt history (length early + suc (length between)) (Begin a call) = subst (λ (es : Events). IsAt es (length early + suc (length between)) (Begin a call)) (sym e) (at_right early (End b reply ∷ (between ++ Begin a call ∷ late)) (suc (length between)) (Begin a call) (let seam = at_seam between late (Begin a call) in (omega (arith, seam.0), seam.1))) in
    let precedes = h.in_time (length early) (length early + suc (length between)) b a reply call (omega arith) ends begins (length first, place_a.0, place_a.1) in
    absurd (omega (arith, precedes.2, one_place order precedes.0 (length first + suc (length second)) b once precedes.3 place_b, one_place order precedes.1 (length first) a once precedes.4 place_a))
