-- Which event of a process may come next, and where it leaves the process.
use Rattle.std.proofs.Common.{◌≡◌, ◌≢◌, ◌∙◌, refl, sym, ap, ℕ, ◌+◌, ◌*◌, zero, suc, Bool, true, false, cond, List, [], ◌∷◌, ◌++◌, ◌⊎◌, inl, inr, length, arith, append-nil}
use Rattle.std.proofs.lemmas.Bool.{eq-eqb, ne_eqb, false≢true}
use Rattle.std.proofs.lemmas.List.{append_cancel_left, length_push}
use Rattle.ob_interface.specs.Call.{ObjectCall, Reply}
use Rattle.wf_history.specs.declared.event.CallId.{CallId}
use Rattle.wf_history.specs.History.{Event, Begin, End, OwnEvent, Begins, Ends, in_turn, own_event, own_events, IsHistory}
use Rattle.wf_history.proofs.Turns.{length-in_turn, one_begins, one_ends, own_events-push}
use Rattle.wf_parts.specs.Parts.{Events}
use Rattle.wf_parts.specs.Split.{IsBusy, IsIdle}

even_or_odd : (c : ℕ) → ((m : ℕ) × (c ≡ 2 * m)) ⊎ ((m : ℕ) × (c ≡ 2 * m + 1))
even_or_odd zero = inl (0, omega arith)
even_or_odd (suc c) =
    elim (even_or_odd c) [
      | inl e ↦ inr (e.0, let h = e.1 in omega (arith, h))
      | inr o ↦ inl (suc o.0, let h = o.1 in omega (arith, h))
    ]

abbrev number_in : List OwnEvent → ℕ
number_in [] = 0
number_in (Begins n ∷ es) = n
number_in (Ends n ∷ es) = n

abbrev is_begin : List OwnEvent → Bool
is_begin [] = false
is_begin (Begins n ∷ es) = true
is_begin (Ends n ∷ es) = false

pub own_begin : (i : CallId) (call : ObjectCall) → own_event {Reply = Reply} i.process (Begin i call) ≡ Begins i.number ∷ []
own_begin i call = ap (λ (b : Bool). cond b (Begins i.number ∷ []) []) (eq-eqb i.process i.process refl)

pub own_end : (i : CallId) (reply : Reply) → own_event {Call = ObjectCall} i.process (End i reply) ≡ Ends i.number ∷ []
own_end i reply = ap (λ (b : Bool). cond b (Ends i.number ∷ []) []) (eq-eqb i.process i.process refl)

pub foreign_begin : (i : CallId) (call : ObjectCall) (q : ℕ) → q ≢ i.process → own_event {Reply = Reply} q (Begin i call) ≡ []
foreign_begin i call q d = ap (λ (b : Bool). cond b (Begins i.number ∷ []) []) (ne_eqb i.process q (λ e. d (sym e)))

pub foreign_end : (i : CallId) (reply : Reply) (q : ℕ) → q ≢ i.process → own_event {Call = ObjectCall} q (End i reply) ≡ []
foreign_end i reply q d = ap (λ (b : Bool). cond b (Ends i.number ∷ []) []) (ne_eqb i.process q (λ e. d (sym e)))

module _ (events : Events) where
  pushed : (p : ℕ) (e : Event ObjectCall Reply) (os : List OwnEvent) → own_event p e ≡ os → own_events p (events ++ e ∷ []) ≡ own_events p events ++ os
  pushed p e os is = own_events-push p events e ∙ ap (λ (more : List OwnEvent). own_events p events ++ more) is

  -- an event that is none of a process
  pub same_events : (p : ℕ) (e : Event ObjectCall Reply) → own_event p e ≡ [] → own_events p (events ++ e ∷ []) ≡ own_events p events
  same_events p e none = pushed p e [] none ∙ append-nil (own_events p events)

  -- a process is idle or busy
  stands : (p : ℕ) → IsHistory events → ((m : ℕ) × IsIdle events p m) ⊎ ((m : ℕ) × IsBusy events p m)
  stands p whole =
      elim (even_or_odd (length (own_events p events))) [
        | inl e ↦ inl (e.0, whole p ∙ ap (in_turn 1) e.1)
        | inr o ↦ inr (o.0, whole p ∙ ap (in_turn 1) o.1)
      ]

  next_turn : (p count : ℕ) (e : Event ObjectCall Reply) (o : OwnEvent) → own_event p e ≡ o ∷ [] → own_events p events ≡ in_turn 1 count →
      IsHistory (events ++ e ∷ []) → in_turn 1 count ++ o ∷ [] ≡ in_turn 1 (count + 1)
  next_turn p count e o own turns h =
      let all : own_events p (events ++ e ∷ []) ≡ in_turn 1 count ++ o ∷ [] = pushed p e (o ∷ []) own ∙ ap (λ (es : List OwnEvent). es ++ o ∷ []) turns in
      let long : length (own_events p (events ++ e ∷ [])) ≡ count + 1 = ap length all ∙ length_push (in_turn 1 count) o ∙ ap (λ (n : ℕ). n + 1) (length-in_turn 1 count) in
      sym all ∙ h p ∙ ap (in_turn 1) long

  behind_idle : (p m : ℕ) (e : Event ObjectCall Reply) (o : OwnEvent) → own_event p e ≡ o ∷ [] → IsIdle events p m → IsHistory (events ++ e ∷ []) → o ∷ [] ≡ Begins (1 + m) ∷ []
  behind_idle p m e o own idle h = append_cancel_left (in_turn 1 (2 * m)) (o ∷ []) (Begins (1 + m) ∷ []) (next_turn p (2 * m) e o own idle h ∙ sym (one_begins 1 m))

  behind_busy : (p m : ℕ) (e : Event ObjectCall Reply) (o : OwnEvent) → own_event p e ≡ o ∷ [] → IsBusy events p m → IsHistory (events ++ e ∷ []) → o ∷ [] ≡ Ends (1 + m) ∷ []
  behind_busy p m e o own busy h =
      let count : 2 * m + 1 + 1 ≡ 2 * m + 2 = omega arith in
      append_cancel_left (in_turn 1 (2 * m + 1)) (o ∷ []) (Ends (1 + m) ∷ []) (next_turn p (2 * m + 1) e o own busy h ∙ ap (in_turn 1) count ∙ sym (one_ends 1 m))

  -- where a call begins, its process was idle
  pub begin_idle : (i : CallId) (call : ObjectCall) → IsHistory events → IsHistory (events ++ Begin i call ∷ []) → (m : ℕ) × IsIdle events i.process m × (i.number ≡ m + 1)
  begin_idle i call whole h =
      elim (stands i.process whole) [
        | inl s ↦ (s.0, s.1, let n = ap number_in (behind_idle i.process s.0 (Begin i call) (Begins i.number) (own_begin i call) s.1 h) in omega (arith, n))
        | inr s ↦ absurd (false≢true (sym (ap is_begin (behind_busy i.process s.0 (Begin i call) (Begins i.number) (own_begin i call) s.1 h))))
      ]

  -- where one ends, it was busy
  pub end_busy : (i : CallId) (reply : Reply) → IsHistory events → IsHistory (events ++ End i reply ∷ []) → (m : ℕ) × IsBusy events i.process m × (i.number ≡ m + 1)
  end_busy i reply whole h =
      elim (stands i.process whole) [
        | inl s ↦ absurd (false≢true (ap is_begin (behind_idle i.process s.0 (End i reply) (Ends i.number) (own_end i reply) s.1 h)))
        | inr s ↦ (s.0, s.1, let n = ap number_in (behind_busy i.process s.0 (End i reply) (Ends i.number) (own_end i reply) s.1 h) in omega (arith, n))
      ]

  -- and is so behind it
  pub begun_busy : (i : CallId) (call : ObjectCall) (m : ℕ) → IsIdle events i.process m → i.number ≡ m + 1 → IsBusy (events ++ Begin i call ∷ []) i.process m
  begun_busy i call m idle number =
      let count : i.number ≡ 1 + m = omega (arith, number) in
      pushed i.process (Begin i call) (Begins i.number ∷ []) (own_begin i call) ∙ ap (λ (es : List OwnEvent). es ++ Begins i.number ∷ []) idle
      ∙ ap (λ (n : ℕ). in_turn 1 (2 * m) ++ Begins n ∷ []) count ∙ one_begins 1 m

  pub ended_idle : (i : CallId) (reply : Reply) (m : ℕ) → IsBusy events i.process m → i.number ≡ m + 1 → IsIdle (events ++ End i reply ∷ []) i.process (m + 1)
  ended_idle i reply m busy number =
      let count : i.number ≡ 1 + m = omega (arith, number) in
      let twice : 2 * m + 2 ≡ 2 * (m + 1) = omega arith in
      pushed i.process (End i reply) (Ends i.number ∷ []) (own_end i reply) ∙ ap (λ (es : List OwnEvent). es ++ Ends i.number ∷ []) busy
      ∙ ap (λ (n : ℕ). in_turn 1 (2 * m + 1) ++ Ends n ∷ []) count ∙ one_ends 1 m ∙ ap (in_turn 1) twice

  counts : (p k m : ℕ) → own_events p events ≡ in_turn 1 k → own_events p events ≡ in_turn 1 m → k ≡ m
  counts p k m h g = sym (length-in_turn 1 k) ∙ ap length (sym h ∙ g) ∙ length-in_turn 1 m

  pub not_both : (p k m : ℕ) → IsIdle events p k → IsBusy events p m → ⊥
  not_both p k m idle busy = let same = counts p (2 * k) (2 * m + 1) idle busy in omega (arith, same)

  pub same_busy : (p k m : ℕ) → IsBusy events p k → IsBusy events p m → k ≡ m
  same_busy p k m h g = let same = counts p (2 * k + 1) (2 * m + 1) h g in omega (arith, same)

  pub same_idle : (p k m : ℕ) → IsIdle events p k → IsIdle events p m → k ≡ m
  same_idle p k m h g = let same = counts p (2 * k) (2 * m) h g in omega (arith, same)
