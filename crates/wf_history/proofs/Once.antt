-- In a history a call begins at one place, and ends at one.
use Rattle.std.proofs.Common.{◌≡◌, refl, sym, ap, ◌∙◌, subst, ℕ, ◌+◌, ◌<◌, ◌≤◌, zero, suc, Bool, cond, List, [], ◌∷◌, ◌++◌, length, take, Some, arith, inl, inr, length-append, eq-eqb}
use Rattle.std.proofs.lemmas.Option.{same_Some}
use Rattle.std.proofs.lemmas.Bool.{cases_lt}
use Rattle.std.specs.List.{slice_get, Contains}
use Rattle.wf_history.specs.declared.event.CallId.{CallId}
use Rattle.wf_history.specs.History.{Event, Begin, End, OwnEvent, Begins, Ends, in_turn, own_event, own_events, IsHistory}
use Rattle.wf_history.proofs.Positions.{place_behind, place_of, one_item}

abbrev number_of : OwnEvent → ℕ
number_of (Begins n) = n
number_of (Ends n) = n

-- from a number on, each own event has at least this number
at_least : (number count k : ℕ) (e : OwnEvent) → slice_get (in_turn number count) k ≡ Some e → number ≤ number_of e
at_least number zero k e h = absurd (cc)
at_least number (suc zero) zero e h = let s : Begins number ≡ e = cc in let n = ap number_of s in omega (arith, n)
at_least number (suc zero) (suc k) e h = absurd (cc)
at_least number (suc (suc count)) zero e h = let s : Begins number ≡ e = cc in let n = ap number_of s in omega (arith, n)
at_least number (suc (suc count)) (suc zero) e h = let s : Ends number ≡ e = cc in let n = ap number_of s in omega (arith, n)
at_least number (suc (suc count)) (suc (suc k)) e h =
    let r = at_least (number + 1) count k e h in omega (arith, r)

-- and no two are the same
turns_once : (number count k m : ℕ) (e : OwnEvent) → k < m → slice_get (in_turn number count) k ≡ Some e → slice_get (in_turn number count) m ≡ Some e → ⊥
turns_once number zero k m e lt h g = absurd (cc)
turns_once number (suc zero) k zero e lt h g = omega arith
turns_once number (suc zero) k (suc m) e lt h g = absurd (cc)
turns_once number (suc (suc count)) k zero e lt h g = omega arith
turns_once number (suc (suc count)) zero (suc zero) e lt h g = let s : Begins number ≡ Ends number = cc in absurd (cc)
turns_once number (suc (suc count)) (suc k) (suc zero) e lt h g = omega arith
turns_once number (suc (suc count)) zero (suc (suc m)) e lt h g =
    let s : Begins number ≡ e = cc in
    let n = ap number_of s in
    let r = at_least (number + 1) count m e g in
    omega (arith, n, r)
turns_once number (suc (suc count)) (suc zero) (suc (suc m)) e lt h g =
    let s : Ends number ≡ e = cc in
    let n = ap number_of s in
    let r = at_least (number + 1) count m e g in
    omega (arith, n, r)
turns_once number (suc (suc count)) (suc (suc k)) (suc (suc m)) e lt h g = turns_once (number + 1) count k m e (omega arith) h g

own_begin : (Call Reply : Type 0) (id : CallId) (call : Call) → own_event {Call = Call} {Reply = Reply} id.process (Begin id call) ≡ Begins id.number ∷ []
own_begin Call Reply id call = ap (λ (b : Bool). cond b (Begins id.number ∷ []) []) (eq-eqb id.process id.process refl)

own_end : (Call Reply : Type 0) (id : CallId) (reply : Reply) → own_event {Call = Call} {Reply = Reply} id.process (End id reply) ≡ Ends id.number ∷ []
own_end Call Reply id reply = ap (λ (b : Bool). cond b (Ends id.number ∷ []) []) (eq-eqb id.process id.process refl)

module _ {Call Reply : Type 0} where
  -- the place of an event among its process's own
  abbrev own_place : ℕ → List (Event Call Reply) → ℕ → ℕ
  own_place process history k = length (own_events process (take k history))

  own_at : (process : ℕ) (history : List (Event Call Reply)) (k : ℕ) (event : Event Call Reply) (own : OwnEvent) →
      slice_get history k ≡ Some event → own_event process event ≡ own ∷ [] →
      slice_get (own_events process history) (own_place process history k) ≡ Some own
  own_at process [] k event own h e = absurd (cc)
  own_at process (a ∷ history) zero event own h e =
      let same : own_event process a ≡ own ∷ [] = ap (own_event process) (same_Some a event h) ∙ e in
      ap (λ (es : List OwnEvent). slice_get (es ++ own_events process history) 0) same
  own_at process (a ∷ history) (suc k) event own h e =
      ap (slice_get (own_event process a ++ own_events process history)) (length-append (own_event process a) (own_events process (take k history)))
      ∙ place_behind (own_event process a) (own_events process history) (own_place process history k)
      ∙ own_at process history k event own h e

  own_before : (process : ℕ) (history : List (Event Call Reply)) (k m : ℕ) (event : Event Call Reply) (own : OwnEvent) → k < m →
      slice_get history k ≡ Some event → own_event process event ≡ own ∷ [] → own_place process history k < own_place process history m
  own_before process [] k m event own lt h e = absurd (cc)
  own_before process (a ∷ history) k zero event own lt h e = absurd (omega arith)
  own_before process (a ∷ history) zero (suc m) event own lt h e =
      let same : own_event process a ≡ own ∷ [] = ap (own_event process) (same_Some a event h) ∙ e in
      let one = ap length same in
      let all = length-append (own_event process a) (own_events process (take m history)) in
      omega (arith, one, all)
  own_before process (a ∷ history) (suc k) (suc m) event own lt h e =
      let r = own_before process history k m event own (omega arith) h e in
      let less = length-append (own_event process a) (own_events process (take k history)) in
      let all = length-append (own_event process a) (own_events process (take m history)) in
      omega (arith, r, less, all)

  own_once : (process : ℕ) (history : List (Event Call Reply)) (k m : ℕ) (event other : Event Call Reply) (own : OwnEvent) → IsHistory history → k < m →
      slice_get history k ≡ Some event → slice_get history m ≡ Some other → own_event process event ≡ own ∷ [] → own_event process other ≡ own ∷ [] → ⊥
  own_once process history k m event other own whole lt h g e f =
      let count = length (own_events process history) in
      let turn = λ (j : ℕ) (s : slice_get (own_events process history) j ≡ Some own). ap (λ (es : List OwnEvent). slice_get es j) (sym (whole process)) ∙ s in
      turns_once 1 count (own_place process history k) (own_place process history m) own
      (own_before process history k m event own lt h e)
      (turn (own_place process history k) (own_at process history k event own h e))
      (turn (own_place process history m) (own_at process history m other own g f))

  module _ (history : List (Event Call Reply)) (whole : IsHistory history) where
    pub one_begin : (id : CallId) (k m : ℕ) (call other : Call) → slice_get history k ≡ Some (Begin id call) → slice_get history m ≡ Some (Begin id other) → k ≡ m
    one_begin id k m call other h g =
        elim (cases_lt k m) [
          | inl lt ↦ absurd (own_once id.process history k m (Begin id call) (Begin id other) (Begins id.number) whole lt h g (own_begin Call Reply id call) (own_begin Call Reply id other))
          | inr le ↦ elim (cases_lt m k) [
            | inl lt ↦ absurd (own_once id.process history m k (Begin id other) (Begin id call) (Begins id.number) whole lt g h (own_begin Call Reply id other) (own_begin Call Reply id call))
            | inr ge ↦ omega arith
          ]
        ]

    pub one_end : (id : CallId) (k m : ℕ) (reply other : Reply) → slice_get history k ≡ Some (End id reply) → slice_get history m ≡ Some (End id other) → k ≡ m
    one_end id k m reply other h g =
        elim (cases_lt k m) [
          | inl lt ↦ absurd (own_once id.process history k m (End id reply) (End id other) (Ends id.number) whole lt h g (own_end Call Reply id reply) (own_end Call Reply id other))
          | inr le ↦ elim (cases_lt m k) [
            | inl lt ↦ absurd (own_once id.process history m k (End id other) (End id reply) (Ends id.number) whole lt g h (own_end Call Reply id other) (own_end Call Reply id reply))
            | inr ge ↦ omega arith
          ]
        ]

    -- a call began once, and has one reply
    pub one_call : (id : CallId) (call other : Call) → Contains history (Begin id call) → Contains history (Begin id other) → call ≡ other
    one_call id call other h g =
        let k = place_of history (Begin id call) h in
        let m = place_of history (Begin id other) g in
        let same = one_begin id k.0 m.0 call other k.1 m.1 in
        let e : ◌≡◌ {A = Event Call Reply} (Begin id call) (Begin id other) = one_item history m.0 (Begin id call) (Begin id other) (subst (λ (n : ℕ). slice_get history n ≡ Some (Begin id call)) same k.1) m.1 in
        cc

    pub one_reply : (id : CallId) (reply other : Reply) → Contains history (End id reply) → Contains history (End id other) → reply ≡ other
    one_reply id reply other h g =
        let k = place_of history (End id reply) h in
        let m = place_of history (End id other) g in
        let same = one_end id k.0 m.0 reply other k.1 m.1 in
        let e : ◌≡◌ {A = Event Call Reply} (End id reply) (End id other) = one_item history m.0 (End id reply) (End id other) (subst (λ (n : ℕ). slice_get history n ≡ Some (End id reply)) same k.1) m.1 in
        cc
