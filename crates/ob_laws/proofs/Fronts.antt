-- The events before others, and the Begin and End events among them.
use Rattle.std.proofs.Common.{◌≡◌, ℕ, ◌+◌, zero, suc, List, [], ◌∷◌, ◌++◌, length, refl, sym, ◌∙◌, ap, subst, append_assoc}
use Rattle.ob_object_calls.specs.RunRecords.{without_applied}
use Rattle.wf_history.specs.History.{Event, Begin, Applied, End, OwnEvent, Begins, Ends, in_turn, own_event, own_events, own_call, own_calls, IsHistory}

-- the first of some turns are as many turns
turns_front : (number count : ℕ) (xs ys : List OwnEvent) → xs ++ ys ≡ in_turn number count → xs ≡ in_turn number (length xs)
turns_front number count [] ys e = refl
turns_front number zero (x ∷ xs) ys e = absurd (cc)
turns_front number (suc zero) (x ∷ []) ys e = cc
turns_front number (suc (suc count)) (x ∷ []) ys e = cc
turns_front number (suc zero) (x ∷ y ∷ xs) ys e = absurd (cc)
turns_front number (suc (suc count)) (x ∷ y ∷ xs) ys e =
    let first : x ≡ Begins number = cc in
    let second : y ≡ Ends number = cc in
    let rest : xs ++ ys ≡ in_turn (number + 1) count = cc in
    let more = turns_front (number + 1) count xs ys rest in
    cc

module _ {Call Reply : Type 0} where
  own_events-append : (p : ℕ) (xs ys : List (Event Call Reply)) → own_events p (xs ++ ys) ≡ own_events p xs ++ own_events p ys
  own_events-append p [] ys = refl
  own_events-append p (x ∷ xs) ys = ap (λ (es : List OwnEvent). own_event p x ++ es) (own_events-append p xs ys) ∙ sym (append_assoc (own_event p x) (own_events p xs) (own_events p ys))

  -- the first events of a history are one
  pub history_front : (xs ys : List (Event Call Reply)) → IsHistory (xs ++ ys) → IsHistory xs
  history_front xs ys h process =
      turns_front 1 (length (own_events process (xs ++ ys))) (own_events process xs) (own_events process ys) (sym (own_events-append process xs ys) ∙ h process)

  pub without-append : (xs ys : List (Event Call Reply)) → without_applied (xs ++ ys) ≡ without_applied xs ++ without_applied ys
  without-append [] ys = refl
  without-append (Begin id call ∷ xs) ys = ap (λ (es : List (Event Call Reply)). Begin id call ∷ es) (without-append xs ys)
  without-append (Applied ids ∷ xs) ys = without-append xs ys
  without-append (End id reply ∷ xs) ys = ap (λ (es : List (Event Call Reply)). End id reply ∷ es) (without-append xs ys)

  pub same_calls : (p : ℕ) (xs : List (Event Call Reply)) → own_calls p (without_applied xs) ≡ own_calls p xs
  same_calls p [] = refl
  same_calls p (Begin id call ∷ xs) = ap (λ (cs : List Call). own_call {Reply = Reply} p (Begin id call) ++ cs) (same_calls p xs)
  same_calls p (Applied ids ∷ xs) = same_calls p xs
  same_calls p (End id reply ∷ xs) = same_calls p xs

  same_events : (p : ℕ) (xs : List (Event Call Reply)) → own_events p (without_applied xs) ≡ own_events p xs
  same_events p [] = refl
  same_events p (Begin id call ∷ xs) = ap (λ (es : List OwnEvent). own_event {Reply = Reply} p (Begin id call) ++ es) (same_events p xs)
  same_events p (Applied ids ∷ xs) = same_events p xs
  same_events p (End id reply ∷ xs) = ap (λ (es : List OwnEvent). own_event {Call = Call} p (End id reply) ++ es) (same_events p xs)

  pub history_without : (xs : List (Event Call Reply)) → IsHistory xs → IsHistory (without_applied xs)
  history_without xs h process = subst (λ (es : List OwnEvent). es ≡ in_turn 1 (length es)) (sym (same_events process xs)) (h process)
