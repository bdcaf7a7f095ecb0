-- A call that ends next has begun.
use Rattle.std.proofs.Common.{◌≡◌, ℕ, ◌+◌, ◌-◌, ◌<◌, ◌≤◌, zero, suc, Bool, cond, true, false, List, [], ◌∷◌, ◌++◌, length, slice_get, Some, refl, sym, ◌∙◌, ap, ap₂, arith, eq-eqb}
use Rattle.std.proofs.Math.Dec.{eqb}
use Rattle.wf_history.proofs.Turns.{own_events-push}
use Rattle.wf_history.specs.declared.event.CallId.{CallId}
use Rattle.wf_history.specs.History.{Event, Begin, Applied, End, OwnEvent, Begins, Ends, in_turn, own_event, own_events, own_calls, IsHistory}

abbrev begins : List OwnEvent → ℕ
begins [] = 0
begins (Begins n ∷ es) = suc (begins es)
begins (Ends n ∷ es) = begins es

-- how many calls have begun where this one ends next
begun_before : (number count k : ℕ) (xs : List OwnEvent) → xs ++ Ends k ∷ [] ≡ in_turn number count → (begins xs + number ≡ k + 1) × (1 ≤ begins xs)
begun_before number zero k [] e = absurd (cc)
begun_before number (suc zero) k [] e = absurd (cc)
begun_before number (suc (suc count)) k [] e = absurd (cc)
begun_before number zero k (x ∷ xs) e = absurd (cc)
begun_before number (suc zero) k (x ∷ []) e = absurd (cc)
begun_before number (suc zero) k (x ∷ y ∷ xs) e = absurd (cc)
begun_before number (suc (suc count)) k (x ∷ []) e =
    let first : x ≡ Begins number = cc in
    let last : k ≡ number = cc in
    let one : begins (x ∷ []) ≡ 1 = ap (λ (o : OwnEvent). begins (o ∷ [])) first in
    (omega (arith, one, last), omega (arith, one))
begun_before number (suc (suc count)) k (x ∷ y ∷ xs) e =
    let first : x ≡ Begins number = cc in
    let second : y ≡ Ends number = cc in
    let rest : xs ++ Ends k ∷ [] ≡ in_turn (number + 1) count = cc in
    let more = begun_before (number + 1) count k xs rest in
    let all : begins (x ∷ y ∷ xs) ≡ suc (begins xs) = ap₂ (λ (o p : OwnEvent). begins (o ∷ p ∷ xs)) first second in
    (omega (arith, all, more.0), omega (arith, all))

there_is : {X : Type 0} (xs : List X) (k : ℕ) → k < length xs → (x : X) × (slice_get xs k ≡ Some x)
there_is [] k below = absurd (omega (arith, below))
there_is (x ∷ xs) zero below = (x, refl)
there_is (x ∷ xs) (suc k) below = there_is xs k (omega (arith, below))

count_one : {Call : Type 0} (b : Bool) (n : ℕ) (call : Call) (cs : List Call) (es : List OwnEvent) → length cs ≡ begins es → length (cond b (call ∷ []) [] ++ cs) ≡ begins (cond b (Begins n ∷ []) [] ++ es)
count_one true n call cs es h = ap suc h
count_one false n call cs es h = h

count_none : (b : Bool) (n : ℕ) (es : List OwnEvent) → begins (cond b (Ends n ∷ []) [] ++ es) ≡ begins es
count_none true n es = refl
count_none false n es = refl

module _ {Call Reply : Type 0} where
  calls_counted : (p : ℕ) (xs : List (Event Call Reply)) → length (own_calls p xs) ≡ begins (own_events p xs)
  calls_counted p [] = refl
  calls_counted p (Begin id call ∷ xs) = count_one (eqb id.process p) id.number call (own_calls p xs) (own_events p xs) (calls_counted p xs)
  calls_counted p (Applied ids ∷ xs) = calls_counted p xs
  calls_counted p (End id reply ∷ xs) = calls_counted p xs ∙ sym (count_none (eqb id.process p) id.number (own_events p xs))

  pub ended_call : (before : List (Event Call Reply)) (id : CallId) (reply : Reply) → IsHistory (before ++ End id reply ∷ []) →
      (call : Call) × (slice_get (own_calls id.process before) (id.number - 1) ≡ Some call)
  ended_call before id reply whole =
      let own : own_event {Call = Call} id.process (End id reply) ≡ Ends id.number ∷ [] = ap (λ (b : Bool). cond b (Ends id.number ∷ []) []) (eq-eqb id.process id.process refl) in
      let last : own_events id.process (before ++ End id reply ∷ []) ≡ own_events id.process before ++ Ends id.number ∷ [] =
      own_events-push id.process before (End id reply) ∙ ap (λ (es : List OwnEvent). own_events id.process before ++ es) own in
      let count = begun_before 1 (length (own_events id.process (before ++ End id reply ∷ []))) id.number (own_events id.process before) (sym last ∙ whole id.process) in
      let calls = calls_counted id.process before in
      there_is (own_calls id.process before) (id.number - 1) (omega (arith, calls, count.0, count.1))
