-- A part, with one event more of the history.
use Rattle.std.proofs.Common.{◌≡◌, ◌≢◌, ◌∙◌, refl, sym, ap, subst, ℕ, ◌+◌, ◌-◌, List, [], ◌∷◌, ◌++◌, inl, inr, length, get_or, slice_get, Some, arith}
use Rattle.std.proofs.lemmas.Bool.{cases_eq}
use Rattle.std.proofs.lemmas.List.{length_push, map-append}
use Rattle.std.proofs.lemmas.List.Elements.{Contains-append_left, Contains-push, Contains-push_cases}
use Rattle.std.proofs.lemmas.Option.{get_or_from_slice_get, slice_get_within}
use Rattle.std.specs.List.{Contains}
use Rattle.ob_interface.specs.Call.{ObjectCall, Reply}
use Rattle.ob_interface.specs.declared.scalar.Scalar.{Scalar}
use Rattle.wf_history.proofs.Once.{one_begin}
use Rattle.wf_history.proofs.Positions.{place_here, place_left, place_of, place_push, same_call}
use Rattle.wf_history.proofs.Turns.{history-begins, history-ends}
use Rattle.wf_history.specs.declared.event.CallId.{CallId}
use Rattle.wf_history.specs.History.{Event, Begin, End, own_events, IsHistory}
use Rattle.wf_history.specs.Legal.{HasBegun}
use Rattle.wf_order.specs.Rows.{call_at, row_of}
use Rattle.wf_parts.proofs.Picking.{numbered_more, picked_other, picked_own, same_whole}
use Rattle.wf_parts.proofs.Seating.{is_call_at, seat_same, seat_stays}
use Rattle.wf_parts.proofs.Turning.{begin_idle, begun_busy, end_busy, ended_idle, foreign_begin, foreign_end, not_both, same_busy, same_events}
use Rattle.wf_parts.specs.Numbering.{AreNumbered, HasNumber, IsNumbered, PartView, whole_event, whole_events, whole_id}
use Rattle.wf_parts.specs.Parts.{ArePicked, Events, IsOwn, IsWith}
use Rattle.wf_parts.specs.Split.{Begins, Ends, IsBusy, IsIdle, IsPartSoFar, IsSeat, last_id, next_id}

has_begun_left : (front : Events) (e : Event ObjectCall Reply) (id : CallId) → ((call : ObjectCall) × HasBegun front id call) → (call : ObjectCall) × HasBegun (front ++ e ∷ []) id call
has_begun_left front e id h = (h.0, Contains-append_left front (e ∷ []) (Begin id h.0) h.1)

module _ (all : Events) (by : ℕ) (front : Events) where
  -- an event of another part
  pub part_stays : (e : Event ObjectCall Reply) (p : PartView) → IsHistory front → IsHistory (front ++ e ∷ []) → ¬ IsOwn all by p.value e → IsPartSoFar all by front p →
      IsPartSoFar all by (front ++ e ∷ []) p
  part_stays e p whole h not s = record {
    whole = s.whole;
    picked = picked_other all by p.value front (whole_events p.rows p.events) e not s.picked;
    numbered = s.numbered;
    begun = λ q i n at. has_begun_left front e (record { process = q; number = n }) (s.begun q i n at);
    seats = λ q. seat_stays all by p.value front p.events (row_of p.rows q) q e whole h not (s.seats q);
  }

  module _ (id : CallId) (call : ObjectCall) (old : PartView) (whole : IsHistory front) (h : IsHistory (front ++ Begin id call ∷ [])) (is : IsWith all by old.value id) (s : IsPartSoFar all by front old) where
    abbrev was : (m : ℕ) × IsIdle front id.process m × (id.number ≡ m + 1)
    was = begin_idle front id call whole h

    abbrev row : List ℕ
    row = row_of old.rows id.process

    idle_here : IsIdle old.events id.process (length row)
    idle_here = (s.seats id.process).idle was.0 was.1

    -- the part's next call may begin
    pub may_begin : IsHistory (old.events ++ Begin (next_id old.rows id.process) call ∷ [])
    may_begin = history-begins old.events (next_id old.rows id.process) call (length row) idle_here refl s.whole

    -- it is a new one
    is_new : (i : ℕ) → slice_get row i ≡ Some id.number → ⊥
    is_new i at =
        let b = s.begun id.process i id.number at in
        let p = place_of front (Begin id b.0) b.1 in
        let within = slice_get_within front p.0 (Begin id b.0) p.1 in
        let same = one_begin (front ++ Begin id call ∷ []) h id p.0 (length front) b.0 call (place_left front (Begin id call ∷ []) p.0 (Begin id b.0) p.1) (place_here front [] (Begin id call)) in
        omega (arith, within, same)

    module _ (new : PartView) (b : Begins old id call new) where
      abbrev next : CallId
      next = next_id old.rows id.process

      next_is : whole_id new.rows next ≡ id
      next_is =
          let size : length row + 1 - 1 ≡ length row = omega arith in
          same_call (whole_id new.rows next) id refl
          (ap (λ (r : List ℕ). get_or r (length row + 1 - 1) 0) b.rows.own
          ∙ ap (λ (k : ℕ). get_or (row ++ id.number ∷ []) k 0) size
          ∙ get_or_from_slice_get (row ++ id.number ∷ []) (length row) id.number 0 (place_here row [] id.number))

      events_are : whole_events new.rows new.events ≡ whole_events old.rows old.events ++ Begin id call ∷ []
      events_are =
          ap (whole_events new.rows) b.events
          ∙ map-append (whole_event new.rows) old.events (Begin next call ∷ [])
          ∙ ap (λ (es : Events). es ++ whole_events new.rows (Begin next call ∷ [])) (same_whole old.rows new.rows id b.rows old.events s.numbered.within)
          ∙ ap (λ (i : CallId). whole_events old.rows old.events ++ Begin i call ∷ []) next_is

      next_has : HasNumber new.rows next
      next_has =
          let size = ap length b.rows.own ∙ length_push row id.number in
          (omega arith, omega (arith, size))

      within : (e : Event ObjectCall Reply) → Contains new.events e → IsNumbered new.rows e
      within e c =
          elim (Contains-push_cases old.events (Begin next call) e (subst (λ (es : Events). Contains es e) b.events c)) [
            | inl there ↦ numbered_more old.rows new.rows id b.rows e (s.numbered.within e there)
            | inr same ↦ subst (IsNumbered new.rows) same next_has
          ]

      apart_own : (i j n : ℕ) → slice_get (row ++ id.number ∷ []) i ≡ Some n → slice_get (row ++ id.number ∷ []) j ≡ Some n → i ≡ j
      apart_own i j n at also =
          elim (place_push row id.number i n at) [
            | inl early ↦ elim (place_push row id.number j n also) [
              | inl other ↦ s.numbered.apart id.process i j n early other
              | inr last ↦ absurd (is_new i (early ∙ ap (λ (k : ℕ). Some k) (sym last.1)))
            ]
            | inr end ↦ elim (place_push row id.number j n also) [
              | inl other ↦ absurd (is_new j (other ∙ ap (λ (k : ℕ). Some k) (sym end.1)))
              | inr last ↦ end.0 ∙ sym last.0
            ]
          ]

      -- of each process the new row is as before, or its own
      by_row : (P : ℕ → List ℕ → Type 0) → ((q : ℕ) → q ≢ id.process → P q (row_of old.rows q)) → P id.process (row ++ id.number ∷ []) → (q : ℕ) → P q (row_of new.rows q)
      by_row P others own q =
          elim (cases_eq q id.process) [
            | inl same ↦ subst (λ (k : ℕ). P k (row_of new.rows k)) (sym same) (subst (P id.process) (sym b.rows.own) own)
            | inr apart ↦ subst (P q) (sym (b.rows.others q apart)) (others q apart)
          ]

      begun_own : (i n : ℕ) → slice_get (row ++ id.number ∷ []) i ≡ Some n → (c : ObjectCall) × HasBegun (front ++ Begin id call ∷ []) (record { process = id.process; number = n }) c
      begun_own i n at =
          elim (place_push row id.number i n at) [
            | inl early ↦ has_begun_left front (Begin id call) (record { process = id.process; number = n }) (s.begun id.process i n early)
            | inr end ↦ subst (λ (k : ℕ). (c : ObjectCall) × HasBegun (front ++ Begin id call ∷ []) (record { process = id.process; number = k }) c) end.1 (call, Contains-push front (Begin id call))
          ]

      after : IsBusy (front ++ Begin id call ∷ []) id.process was.0
      after = begun_busy front id call was.0 was.1 was.2

      busy_here : IsBusy new.events id.process (length row)
      busy_here = ap (own_events id.process) b.events ∙ begun_busy old.events next call (length row) idle_here refl

      seat_own : IsSeat all by new.value (front ++ Begin id call ∷ []) new.events (row ++ id.number ∷ []) id.process
      seat_own = record {
        idle = λ m idle. absurd (not_both (front ++ Begin id call ∷ []) id.process m was.0 idle after);
        elsewhere = λ m busy not.
            let same : m ≡ was.0 = same_busy (front ++ Begin id call ∷ []) id.process m was.0 busy after in
            absurd (not (subst (λ (v : Scalar). IsWith all by v (call_at id.process m)) (sym b.value)
            (subst (λ (x : CallId). IsWith all by old.value x) (is_call_at id was.0 was.2 ∙ ap (call_at id.process) (sym same)) is)));
        busy = λ m busy has.
            let same : m ≡ was.0 = same_busy (front ++ Begin id call ∷ []) id.process m was.0 busy after in
            let number = was.2 in
            let n : id.number ≡ m + 1 = omega (arith, same, number) in
            (length row, busy_here, length_push row id.number, place_here row [] id.number ∙ ap (λ (k : ℕ). Some k) n);
      }

      seat_other : (q : ℕ) → q ≢ id.process → IsSeat all by new.value (front ++ Begin id call ∷ []) new.events (row_of old.rows q) q
      seat_other q apart =
          subst (λ (v : Scalar). IsSeat all by v (front ++ Begin id call ∷ []) new.events (row_of old.rows q) q) (sym b.value)
          (seat_same all by old.value front (front ++ Begin id call ∷ []) old.events new.events (row_of old.rows q) (row_of old.rows q) q
          (same_events front q (Begin id call) (foreign_begin id call q apart))
          (ap (own_events q) b.events ∙ same_events old.events q (Begin next call) (foreign_begin next call q apart)) refl (s.seats q))

      pub part_begins : IsPartSoFar all by (front ++ Begin id call ∷ []) new
      part_begins = record {
        whole = subst (λ (es : Events). IsHistory es) (sym b.events) may_begin;
        picked = subst (λ (v : Scalar). ArePicked all by v (front ++ Begin id call ∷ []) (whole_events new.rows new.events)) (sym b.value)
            (subst (λ (es : Events). ArePicked all by old.value (front ++ Begin id call ∷ []) es) (sym events_are)
            (picked_own all by old.value front (whole_events old.rows old.events) (Begin id call) is s.picked));
        numbered = record {
          within = within;
          apart = λ q i j n at also.
              by_row (λ (k : ℕ) (r : List ℕ). slice_get r i ≡ Some n → slice_get r j ≡ Some n → i ≡ j) (λ k apart. s.numbered.apart k i j n) (apart_own i j n) q at also;
        };
        begun = λ q i n at.
            by_row (λ (k : ℕ) (r : List ℕ). slice_get r i ≡ Some n → (c : ObjectCall) × HasBegun (front ++ Begin id call ∷ []) (record { process = k; number = n }) c)
            (λ k apart here. has_begun_left front (Begin id call) (record { process = k; number = n }) (s.begun k i n here)) (begun_own i n) q at;
        seats = by_row (λ (k : ℕ) (r : List ℕ). IsSeat all by new.value (front ++ Begin id call ∷ []) new.events r k) seat_other seat_own;
      }

  module _ (id : CallId) (reply : Reply) (old : PartView) (whole : IsHistory front) (h : IsHistory (front ++ End id reply ∷ [])) (is : IsWith all by old.value id) (s : IsPartSoFar all by front old) where
    abbrev open_call : (m : ℕ) × IsBusy front id.process m × (id.number ≡ m + 1)
    open_call = end_busy front id reply whole h

    abbrev own_row : List ℕ
    own_row = row_of old.rows id.process

    abbrev last : CallId
    last = last_id old.rows id.process

    open_here : (j : ℕ) × IsBusy old.events id.process j × (length own_row ≡ j + 1) × (slice_get own_row j ≡ Some (open_call.0 + 1))
    open_here = (s.seats id.process).busy open_call.0 open_call.1 (subst (λ (x : CallId). IsWith all by old.value x) (is_call_at id open_call.0 open_call.2) is)

    -- the part's last call may end
    pub may_end : IsHistory (old.events ++ End last reply ∷ [])
    may_end = history-ends old.events last reply open_here.0 open_here.1 open_here.2 s.whole

    last_is : whole_id old.rows last ≡ id
    last_is =
        let size = open_here.2 in
        let place : length own_row - 1 ≡ open_here.0 = omega (arith, size) in
        same_call (whole_id old.rows last) id refl
        (ap (λ (k : ℕ). get_or own_row k 0) place ∙ get_or_from_slice_get own_row open_here.0 (open_call.0 + 1) 0 open_here.3 ∙ sym open_call.2)

    module _ (new : PartView) (e : Ends old id reply new) where
      events_with : whole_events new.rows new.events ≡ whole_events old.rows old.events ++ End id reply ∷ []
      events_with =
          ap (λ (rows : List (List ℕ)). whole_events rows new.events) e.rows
          ∙ ap (whole_events old.rows) e.events
          ∙ map-append (whole_event old.rows) old.events (End last reply ∷ [])
          ∙ ap (λ (i : CallId). whole_events old.rows old.events ++ End i reply ∷ []) last_is

      within_end : (x : Event ObjectCall Reply) → Contains new.events x → IsNumbered old.rows x
      within_end x c =
          elim (Contains-push_cases old.events (End last reply) x (subst (λ (es : Events). Contains es x) e.events c)) [
            | inl there ↦ s.numbered.within x there
            | inr same ↦ subst (IsNumbered old.rows) same (let size = open_here.2 in (omega (arith, size), omega arith))
          ]

      after_end : IsIdle (front ++ End id reply ∷ []) id.process (open_call.0 + 1)
      after_end = ended_idle front id reply open_call.0 open_call.1 open_call.2

      idle_there : IsIdle new.events id.process (length own_row)
      idle_there =
          ap (own_events id.process) e.events ∙ subst (λ (n : ℕ). IsIdle (old.events ++ End last reply ∷ []) id.process n) (sym open_here.2) (ended_idle old.events last reply open_here.0 open_here.1 open_here.2)

      seat_ends : (q : ℕ) → IsSeat all by old.value (front ++ End id reply ∷ []) new.events (row_of old.rows q) q
      seat_ends q =
          elim (cases_eq q id.process) [
            | inl same ↦ subst (λ (k : ℕ). IsSeat all by old.value (front ++ End id reply ∷ []) new.events (row_of old.rows k) k) (sym same) (record {
              idle = λ m idle. idle_there;
              elsewhere = λ m busy not. idle_there;
              busy = λ m busy has. absurd (not_both (front ++ End id reply ∷ []) id.process (open_call.0 + 1) m after_end busy);
            })
            | inr apart ↦
                seat_same all by old.value front (front ++ End id reply ∷ []) old.events new.events (row_of old.rows q) (row_of old.rows q) q
                (same_events front q (End id reply) (foreign_end id reply q apart))
                (ap (own_events q) e.events ∙ same_events old.events q (End last reply) (foreign_end last reply q apart)) refl (s.seats q)
          ]

      pub part_ends : IsPartSoFar all by (front ++ End id reply ∷ []) new
      part_ends = record {
        whole = subst (λ (es : Events). IsHistory es) (sym e.events) may_end;
        picked = subst (λ (v : Scalar). ArePicked all by v (front ++ End id reply ∷ []) (whole_events new.rows new.events)) (sym e.value)
            (subst (λ (es : Events). ArePicked all by old.value (front ++ End id reply ∷ []) es) (sym events_with)
            (picked_own all by old.value front (whole_events old.rows old.events) (End id reply) is s.picked));
        numbered = subst (λ (rows : List (List ℕ)). AreNumbered rows new.events) (sym e.rows) (record { within = within_end; apart = s.numbered.apart });
        begun = subst (λ (rows : List (List ℕ)). (q i n : ℕ) → slice_get (row_of rows q) i ≡ Some n → (c : ObjectCall) × HasBegun (front ++ End id reply ∷ []) (record { process = q; number = n }) c) (sym e.rows)
            (λ q i n at. has_begun_left front (End id reply) (record { process = q; number = n }) (s.begun q i n at));
        seats = subst (λ (rows : List (List ℕ)). (q : ℕ) → IsSeat all by new.value (front ++ End id reply ∷ []) new.events (row_of rows q) q) (sym e.rows)
            (subst (λ (v : Scalar). (q : ℕ) → IsSeat all by v (front ++ End id reply ∷ []) new.events (row_of old.rows q) q) (sym e.value) seat_ends);
      }
