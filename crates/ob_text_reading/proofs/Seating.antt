-- Which event of a process may come next, and where it leaves the process.
use Rattle.std.proofs.Common.{◌≡◌, ◌≢◌, ℕ, ◌+◌, ◌*◌, ◌-◌, ◌<◌, zero, suc, Bool, true, false, cond, List, [], ◌∷◌, ◌++◌, length, set, slice_get, get_or, Option, Some, None, refl, sym, ◌∙◌, ap, subst, arith, inl, inr, append-nil, MatchOption}
use Rattle.std.proofs.lemmas.Bool.{cases_eq, eq-eqb, ne_eqb, false≢true}
use Rattle.std.proofs.lemmas.List.{append_cancel_left, length_push}
use Rattle.std.proofs.lemmas.Option.{same_Some, slice_get_read}
use Rattle.ob_interface.specs.Call.{ObjectCall, Reply}
use Rattle.ob_text_reading.specs.declared.process_calls.Seat.{Seat}
use Rattle.ob_text_reading.specs.Seats.{AreSeats, EndsCall, IsBusy, IsIdle, IsSeat}
use Rattle.wf_history.specs.declared.event.CallId.{CallId}
use Rattle.wf_history.specs.History.{Event, Begin, End, OwnEvent, Begins, Ends, in_turn, own_call, own_calls, own_event, own_events, IsHistory}
use Rattle.wf_history.proofs.Turns.{history-begins, history-ends, length-in_turn, one_begins, one_ends, own_calls-push, own_events-push}

abbrev number_in : List OwnEvent → ℕ
number_in [] = 0
number_in (Begins n ∷ es) = n
number_in (Ends n ∷ es) = n

abbrev is_begin : List OwnEvent → Bool
is_begin [] = false
is_begin (Begins n ∷ es) = true
is_begin (Ends n ∷ es) = false

own_begin : (i : CallId) (call : ObjectCall) → own_event {Reply = Reply} i.process (Begin i call) ≡ Begins i.number ∷ []
own_begin i call = ap (λ (b : Bool). cond b (Begins i.number ∷ []) []) (eq-eqb i.process i.process refl)

own_end : (i : CallId) (reply : Reply) → own_event {Call = ObjectCall} i.process (End i reply) ≡ Ends i.number ∷ []
own_end i reply = ap (λ (b : Bool). cond b (Ends i.number ∷ []) []) (eq-eqb i.process i.process refl)

own_new : (i : CallId) (call : ObjectCall) → own_call {Reply = Reply} i.process (Begin i call) ≡ call ∷ []
own_new i call = ap (λ (b : Bool). cond b (call ∷ []) []) (eq-eqb i.process i.process refl)

-- an event that is none of a process
record IsForeign (q : ℕ) (e : Event ObjectCall Reply) : Type 0 where
  event : own_event q e ≡ []
  call : own_call q e ≡ []

begin_foreign : (i : CallId) (call : ObjectCall) (q : ℕ) → q ≢ i.process → IsForeign q (Begin i call)
begin_foreign i call q d =
    let other = ne_eqb i.process q (λ e. d (sym e)) in
    record { event = ap (λ (b : Bool). cond b (Begins i.number ∷ []) []) other; call = ap (λ (b : Bool). cond b (call ∷ []) []) other }

end_foreign : (i : CallId) (reply : Reply) (q : ℕ) → q ≢ i.process → IsForeign q (End i reply)
end_foreign i reply q d =
    let other = ne_eqb i.process q (λ e. d (sym e)) in
    record { event = ap (λ (b : Bool). cond b (Ends i.number ∷ []) []) other; call = refl }

last_item : {X : Type 0} (xs : List X) (x : X) → slice_get (xs ++ x ∷ []) (length xs) ≡ Some x
last_item [] x = refl
last_item (y ∷ xs) x = last_item xs x

set_same : {X : Type 0} (xs : List X) (p : ℕ) (x y : X) → slice_get (set xs p x) p ≡ Some y → y ≡ x
set_same [] p x y h = absurd (cc)
set_same (a ∷ xs) zero x y h = same_Some y x (sym h)
set_same (a ∷ xs) (suc p) x y h = set_same xs p x y h

set_other : {X : Type 0} (xs : List X) (p k : ℕ) (x : X) → k ≢ p → slice_get (set xs p x) k ≡ slice_get xs k
set_other [] p k x d = refl
set_other (a ∷ xs) zero zero x d = absurd (d refl)
set_other (a ∷ xs) zero (suc k) x d = refl
set_other (a ∷ xs) (suc p) zero x d = refl
set_other (a ∷ xs) (suc p) (suc k) x d = set_other xs p k x (λ e. d (ap suc e))

module _ (events : List (Event ObjectCall Reply)) where
  pushed : (p : ℕ) (e : Event ObjectCall Reply) (os : List OwnEvent) → own_event p e ≡ os → own_events p (events ++ e ∷ []) ≡ own_events p events ++ os
  pushed p e os is = own_events-push p events e ∙ ap (λ (more : List OwnEvent). own_events p events ++ more) is

  -- what comes behind so many turns of a process
  next_turn : (p count : ℕ) (e : Event ObjectCall Reply) (o : OwnEvent) → own_event p e ≡ o ∷ [] → own_events p events ≡ in_turn 1 count →
      IsHistory (events ++ e ∷ []) → in_turn 1 count ++ o ∷ [] ≡ in_turn 1 (count + 1)
  next_turn p count e o own turns h =
      let all : own_events p (events ++ e ∷ []) ≡ in_turn 1 count ++ o ∷ [] = pushed p e (o ∷ []) own ∙ ap (λ (es : List OwnEvent). es ++ o ∷ []) turns in
      let long : length (own_events p (events ++ e ∷ [])) ≡ count + 1 = ap length all ∙ length_push (in_turn 1 count) o ∙ ap (λ (n : ℕ). n + 1) (length-in_turn 1 count) in
      sym all ∙ h p ∙ ap (in_turn 1) long

  behind_idle : (p k : ℕ) (e : Event ObjectCall Reply) (o : OwnEvent) → own_event p e ≡ o ∷ [] → IsIdle events p k → IsHistory (events ++ e ∷ []) → o ∷ [] ≡ Begins (1 + k) ∷ []
  behind_idle p k e o own idle h =
      append_cancel_left (in_turn 1 (2 * k)) (o ∷ []) (Begins (1 + k) ∷ []) (next_turn p (2 * k) e o own idle.turns h ∙ sym (one_begins 1 k))

  behind_busy : (p begun export : ℕ) (e : Event ObjectCall Reply) (o : OwnEvent) → own_event p e ≡ o ∷ [] → (busy : IsBusy events p begun export) → IsHistory (events ++ e ∷ []) → o ∷ [] ≡ Ends (1 + busy.ended) ∷ []
  behind_busy p begun export e o own busy h =
      let count : 2 * busy.ended + 1 + 1 ≡ 2 * busy.ended + 2 = omega arith in
      append_cancel_left (in_turn 1 (2 * busy.ended + 1)) (o ∷ []) (Ends (1 + busy.ended) ∷ [])
      (next_turn p (2 * busy.ended + 1) e o own busy.turns h ∙ ap (in_turn 1) count ∙ sym (one_ends 1 busy.ended))

  pub idle_begins : (i : CallId) (call : ObjectCall) (k : ℕ) → IsIdle events i.process k → IsHistory (events ++ Begin i call ∷ []) → i.number ≡ k + 1
  idle_begins i call k idle h =
      let n = ap number_in (behind_idle i.process k (Begin i call) (Begins i.number) (own_begin i call) idle h) in omega (arith, n)

  pub idle_ends : (i : CallId) (reply : Reply) (k : ℕ) → IsIdle events i.process k → IsHistory (events ++ End i reply ∷ []) → ⊥
  idle_ends i reply k idle h = false≢true (ap is_begin (behind_idle i.process k (End i reply) (Ends i.number) (own_end i reply) idle h))

  pub busy_begins : (i : CallId) (call : ObjectCall) (begun export : ℕ) → IsBusy events i.process begun export → IsHistory (events ++ Begin i call ∷ []) → ⊥
  busy_begins i call begun export busy h =
      false≢true (sym (ap is_begin (behind_busy i.process begun export (Begin i call) (Begins i.number) (own_begin i call) busy h)))

  pub busy_ends : (i : CallId) (reply : Reply) (begun export : ℕ) → IsBusy events i.process begun export → IsHistory (events ++ End i reply ∷ []) → i.number ≡ begun
  busy_ends i reply begun export busy h =
      let n = ap number_in (behind_busy i.process begun export (End i reply) (Ends i.number) (own_end i reply) busy h) in omega (arith, n, busy.one_more)

  seat_begins : (i : CallId) (call : ObjectCall) (k : ℕ) → i.number ≡ k + 1 → IsIdle events i.process k → IsBusy (events ++ Begin i call ∷ []) i.process i.number call.export
  seat_begins i call k number idle =
      let count : i.number ≡ 1 + k = omega (arith, number) in
      let calls : own_calls i.process (events ++ Begin i call ∷ []) ≡ own_calls i.process events ++ call ∷ [] =
      own_calls-push i.process events (Begin i call) ∙ ap (λ (cs : List ObjectCall). own_calls i.process events ++ cs) (own_new i call) in
      record {
        ended = k;
        call = call;
        one_more = number;
        turns = pushed i.process (Begin i call) (Begins i.number ∷ []) (own_begin i call) ∙ ap (λ (es : List OwnEvent). es ++ Begins i.number ∷ []) idle.turns
            ∙ ap (λ (n : ℕ). in_turn 1 (2 * k) ++ Begins n ∷ []) count ∙ one_begins 1 k;
        calls = ap length calls ∙ length_push (own_calls i.process events) call ∙ ap (λ (n : ℕ). n + 1) idle.calls ∙ sym number;
        last = ap (λ (cs : List ObjectCall). slice_get cs k) calls ∙ ap (slice_get (own_calls i.process events ++ call ∷ [])) (sym idle.calls) ∙ last_item (own_calls i.process events) call;
        of_export = refl;
      }

  seat_ends : (i : CallId) (reply : Reply) (begun export : ℕ) → i.number ≡ begun → IsBusy events i.process begun export → IsIdle (events ++ End i reply ∷ []) i.process i.number
  seat_ends i reply begun export number busy =
      let count : i.number ≡ 1 + busy.ended = omega (arith, number, busy.one_more) in
      let twice : 2 * busy.ended + 2 ≡ 2 * i.number = omega (arith, count) in
      record {
        turns = pushed i.process (End i reply) (Ends i.number ∷ []) (own_end i reply) ∙ ap (λ (es : List OwnEvent). es ++ Ends i.number ∷ []) busy.turns
            ∙ ap (λ (n : ℕ). in_turn 1 (2 * busy.ended + 1) ++ Ends n ∷ []) count ∙ one_ends 1 busy.ended ∙ ap (in_turn 1) twice;
        calls = ap length (own_calls-push i.process events (End i reply) ∙ append-nil (own_calls i.process events)) ∙ busy.calls ∙ sym number;
      }

  seat_stays : (q : ℕ) (e : Event ObjectCall Reply) (begun : ℕ) (pending : Option ℕ) → IsForeign q e →
      MatchOption pending (IsIdle events q begun) (λ export. IsBusy events q begun export) → MatchOption pending (IsIdle (events ++ e ∷ []) q begun) (λ export. IsBusy (events ++ e ∷ []) q begun export)
  seat_stays q e begun None foreign idle =
      let es : own_events q (events ++ e ∷ []) ≡ own_events q events = pushed q e [] foreign.event ∙ append-nil (own_events q events) in
      let cs : own_calls q (events ++ e ∷ []) ≡ own_calls q events = own_calls-push q events e ∙ ap (λ (more : List ObjectCall). own_calls q events ++ more) foreign.call ∙ append-nil (own_calls q events) in
      record { turns = es ∙ idle.turns; calls = ap length cs ∙ idle.calls }
  seat_stays q e begun (Some export) foreign busy =
      let es : own_events q (events ++ e ∷ []) ≡ own_events q events = pushed q e [] foreign.event ∙ append-nil (own_events q events) in
      let cs : own_calls q (events ++ e ∷ []) ≡ own_calls q events = own_calls-push q events e ∙ ap (λ (more : List ObjectCall). own_calls q events ++ more) foreign.call ∙ append-nil (own_calls q events) in
      record {
        ended = busy.ended;
        call = busy.call;
        one_more = busy.one_more;
        turns = es ∙ busy.turns;
        calls = ap length cs ∙ busy.calls;
        last = ap (λ (calls : List ObjectCall). slice_get calls busy.ended) cs ∙ busy.last;
        of_export = busy.of_export;
      }

  seats_after : (seats : List Seat) (p : ℕ) (seat : Seat) (e : Event ObjectCall Reply) → AreSeats events seats → IsHistory (events ++ e ∷ []) →
      IsSeat (events ++ e ∷ []) p seat → ((q : ℕ) → q ≢ p → IsForeign q e) → AreSeats (events ++ e ∷ []) (set seats p seat)
  seats_after seats p seat e h whole own foreign =
      record {
        whole = whole;
        each = λ q s at.
            elim (cases_eq q p) [
              | inl same ↦
                  let here : slice_get (set seats p seat) p ≡ Some s = subst (λ (n : ℕ). slice_get (set seats p seat) n ≡ Some s) same at in
                  let seat_is : s ≡ seat = set_same seats p seat s here in
                  subst (λ (n : ℕ). IsSeat (events ++ e ∷ []) n s) (sym same) (subst (λ (x : Seat). IsSeat (events ++ e ∷ []) p x) (sym seat_is) own)
              | inr apart ↦ seat_stays q e s.begun s.pending (foreign q apart) (h.each q s (sym (set_other seats p q seat apart) ∙ at))
            ];
      }

  seats_begin : (seats : List Seat) (i : CallId) (call : ObjectCall) (old : Seat) → AreSeats events seats → slice_get seats i.process ≡ Some old → IsHistory (events ++ Begin i call ∷ []) →
      AreSeats (events ++ Begin i call ∷ []) (set seats i.process (record { begun = i.number; pending = Some call.export }))
  seats_begin seats i call old h at whole = seats_after seats i.process _ (Begin i call) h whole (own old.begun old.pending (h.each i.process old at)) (begin_foreign i call)
    where
      own : (begun : ℕ) (pending : Option ℕ) → MatchOption pending (IsIdle events i.process begun) (λ export. IsBusy events i.process begun export) →
          IsBusy (events ++ Begin i call ∷ []) i.process i.number call.export
      own begun None idle = seat_begins i call begun (idle_begins i call begun idle whole) idle
      own begun (Some export) busy = absurd (busy_begins i call begun export busy whole)

  seats_end : (seats : List Seat) (i : CallId) (reply : Reply) (old : Seat) → AreSeats events seats → slice_get seats i.process ≡ Some old → IsHistory (events ++ End i reply ∷ []) →
      AreSeats (events ++ End i reply ∷ []) (set seats i.process (record { begun = i.number; pending = None }))
  seats_end seats i reply old h at whole = seats_after seats i.process _ (End i reply) h whole (own old.begun old.pending (h.each i.process old at)) (end_foreign i reply)
    where
      own : (begun : ℕ) (pending : Option ℕ) → MatchOption pending (IsIdle events i.process begun) (λ export. IsBusy events i.process begun export) →
          IsIdle (events ++ End i reply ∷ []) i.process i.number
      own begun None idle = absurd (idle_ends i reply begun idle whole)
      own begun (Some export) busy = seat_ends i reply begun export (busy_ends i reply begun export busy whole) busy

  -- what a seat says of the events that may come next
  pub begins_idle : (i : CallId) (call : ObjectCall) (k : ℕ) → IsHistory events → IsIdle events i.process k → i.number ≡ k + 1 → IsHistory (events ++ Begin i call ∷ [])
  begins_idle i call k whole idle number = history-begins events i call k idle.turns number whole

  pub open_call : (i : CallId) (begun : ℕ) (pending : Option ℕ) → begun ≡ i.number → IsHistory events →
      MatchOption pending (IsIdle events i.process begun) (λ export. IsBusy events i.process begun export) →
      MatchOption pending ((reply : Reply) → IsHistory (events ++ End i reply ∷ []) → ⊥) (λ export. EndsCall events i export)
  open_call i begun None number whole idle = λ reply h. idle_ends i reply begun idle h
  open_call i begun (Some export) number whole busy =
      let count : i.number ≡ busy.ended + 1 = omega (arith, number, busy.one_more) in
      let place : i.number - 1 ≡ busy.ended = omega (arith, count) in
      record {
        call = busy.call;
        begun = ap (slice_get (own_calls i.process events)) place ∙ busy.last;
        of_export = busy.of_export;
        next = λ reply. history-ends events i reply busy.ended busy.turns count whole;
      }

  pub not_open : (i : CallId) (reply : Reply) (begun : ℕ) (pending : Option ℕ) → (begun ≡ i.number → ⊥) →
      MatchOption pending (IsIdle events i.process begun) (λ export. IsBusy events i.process begun export) → IsHistory (events ++ End i reply ∷ []) → ⊥
  not_open i reply begun None differ idle h = idle_ends i reply begun idle h
  not_open i reply begun (Some export) differ busy h = differ (sym (busy_ends i reply begun export busy h))

  pub seat_of : (seats : List Seat) (p : ℕ) (seat : Seat) → AreSeats events seats → p < length seats → seat ≡ get_or seats p seat → IsSeat events p seat
  seat_of seats p seat h below at = h.each p seat (slice_get_read seats (length seats) p seat refl below at)

  seat_there : (seats : List Seat) (p : ℕ) → p < length seats → (seat : Seat) × (slice_get seats p ≡ Some seat)
  seat_there [] p below = absurd (omega arith)
  seat_there (seat ∷ seats) zero below = (seat, refl)
  seat_there (seat ∷ seats) (suc p) below = seat_there seats p (omega arith)

  pub seats_begun : (seats : List Seat) (i : CallId) (call : ObjectCall) → AreSeats events seats → i.process < length seats → IsHistory (events ++ Begin i call ∷ []) →
      AreSeats (events ++ Begin i call ∷ []) (set seats i.process (record { begun = i.number; pending = Some call.export }))
  seats_begun seats i call h below whole = let o = seat_there seats i.process below in seats_begin seats i call o.0 h o.1 whole

  pub seats_ended : (seats : List Seat) (i : CallId) (reply : Reply) → AreSeats events seats → i.process < length seats → IsHistory (events ++ End i reply ∷ []) →
      AreSeats (events ++ End i reply ∷ []) (set seats i.process (record { begun = i.number; pending = None }))
  seats_ended seats i reply h below whole = let o = seat_there seats i.process below in seats_end seats i reply o.0 h o.1 whole
