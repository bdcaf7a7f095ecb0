-- What the limit says of the calls that may be taken.
use Rattle.std.proofs.Common.{◌≡◌, refl, sym, ap, ◌∙◌, subst, ℕ, zero, suc, ◌+◌, ◌-◌, ◌<◌, ◌≤◌, List, length, get_or, min, Option, Some, None, arith, ◌⊎◌, inl, inr}
use Rattle.std.proofs.lemmas.Bool.{cases_eq, cases_lt}
use Rattle.std.proofs.lemmas.Option.{same_Some, slice_get_within}
use Rattle.std.specs.List.{slice_get}
use Rattle.ob_interface.specs.Call.{ObjectCall, Reply}
use Rattle.wf_history.specs.declared.event.CallId.{CallId}
use Rattle.wf_history.specs.History.{Event, Begin, End, IsHistory, Before}
use Rattle.wf_history.specs.View.{seen_reply}
use Rattle.wf_history.proofs.Once.{one_begin, one_end}
use Rattle.wf_history.proofs.Positions.{place_of, contains_at, one_item, same_call}
use Rattle.wf_order.specs.declared.rows.Ended.{Ended}
use Rattle.wf_order.specs.declared.kept_rows.Rows.{Rows}
use Rattle.wf_order.specs.Fronts.{IsWithin}
use Rattle.wf_order.specs.Rows.{AreRows, call_at, ended_rows, row_of}
use Rattle.wf_order.specs.Steps.{IsTaken, IsLimit, IsDone}
use Rattle.wf_order.proofs.Places.{before_at, places_before, ends_in_turn}
use Rattle.wf_lookup.proofs.Turns.{slice_get_some}

module _ {Call Reply : Type 0} (history : List (Event Call Reply)) where
  begin_not_end : (a b : CallId) (call : Call) (reply : Reply) → ◌≡◌ {A = Event Call Reply} (Begin a call) (End b reply) → ⊥
  begin_not_end a b call reply e = cc

  module _ (counts : List ℕ) (limit : ℕ) (is : IsLimit history counts limit) where
    pub limit_done : {State : Type 0} (Effect : Call → State → State → Reply → Type 0) (s : State) → length history ≤ limit → IsDone Effect history (record { counts = counts; state = s })
    limit_done Effect s le id reply ended =
        let k = place_of history (End id reply) ended in
        let lt = slice_get_within history k.0 (End id reply) k.1 in
        is.taken id reply k.0 k.1 (omega (arith, le, lt))

    pub limit_not_done : {State : Type 0} (Effect : Call → State → State → Reply → Type 0) (s : State) → limit < length history → ¬ IsDone Effect history (record { counts = counts; state = s })
    limit_not_done Effect s lt done =
        let f = is.first lt in
        f.3 (done f.0 f.1 (contains_at history limit (End f.0 f.1) f.2))

    module _ (whole : IsHistory history) (id : CallId) (call : Call) (place : ℕ) (at : slice_get history place ≡ Some (Begin id call)) where
      -- what begins before the limit may be taken
      pub limit_earlier : place < limit → (a : CallId) → Before history a id → IsTaken counts a
      limit_earlier lt a bef =
          let p = places_before history bef in
          let same = one_begin history whole id place p.3 call p.1 at p.6 in
          let less = p.4 in
          is.taken a p.0 p.2 p.5 (omega (arith, lt, same, less))

      -- what begins behind it may not
      pub limit_later : limit ≤ place → ((a : CallId) → Before history a id → IsTaken counts a) → ⊥
      limit_later le earlier =
          let within = slice_get_within history place (Begin id call) at in
          let f = is.first (omega (arith, le, within)) in
          elim (cases_eq limit place) [
            | inl e ↦ begin_not_end id f.0 call f.1 (one_item history place (Begin id call) (End f.0 f.1) at (ap (slice_get history) (sym e) ∙ f.2))
            | inr ne ↦ f.3 (earlier f.0 (before_at history f.0 id f.1 call limit place (omega (arith, ne, le)) f.2 at))
          ]

-- what ends before a place is taken, and what ends there: so what ends before the next one is
pub one_further : {Call Reply : Type 0} (history : List (Event Call Reply)) (counts : List ℕ) (place : ℕ) → ((a : CallId) (reply : Reply) (k : ℕ) → slice_get history k ≡ Some (End a reply) → k < place → IsTaken counts a) →
    ((a : CallId) (reply : Reply) → slice_get history place ≡ Some (End a reply) → IsTaken counts a) → (a : CallId) (reply : Reply) (k : ℕ) → slice_get history k ≡ Some (End a reply) → k < place + 1 → IsTaken counts a
one_further history counts place before here a reply k at lt =
    elim (cases_lt k place) [
      | inl less ↦ before a reply k at less
      | inr ge ↦ let same : place ≡ k = omega (arith, lt, ge) in here a reply (ap (slice_get history) same ∙ at)
    ]

-- two histories with the same rows have the same ends at the same places, and the same limits
module _ (history other : List (Event ObjectCall Reply)) (processes more : ℕ) (rows : Rows) (are : AreRows history processes rows) (also : AreRows other more rows) where
  end_moved : (a : CallId) (reply : Reply) (place : ℕ) → slice_get history place ≡ Some (End a reply) → (r : Reply) × (slice_get other place ≡ Some (End a r))
  end_moved a reply place at =
      let every = are.every_ended a reply (contains_at history place (End a reply) at) in
      let number = every.1 in
      let here : call_at a.process (a.number - 1) ≡ a = same_call (call_at a.process (a.number - 1)) a refl (omega (arith, number)) in
      let own = are.ended a.process (a.number - 1) every.2 every.3 in
      let once = one_end history are.whole a every.2.place place (seen_reply every.2.reply) reply (subst (λ (i : CallId). slice_get history every.2.place ≡ Some (End i (seen_reply every.2.reply))) here own) at in
      let there = also.ended a.process (a.number - 1) every.2 every.3 in
      (seen_reply every.2.reply, ap (slice_get other) (sym once) ∙ subst (λ (i : CallId). slice_get other every.2.place ≡ Some (End i (seen_reply every.2.reply))) here there)

module _ (history other : List (Event ObjectCall Reply)) (processes more : ℕ) (rows : Rows) (are : AreRows history processes rows) (also : AreRows other more rows) where
  pub limit_moved : (counts : List ℕ) (limit : ℕ) → IsLimit history counts limit → IsLimit other counts limit
  limit_moved counts limit is = record {
    within = let own = is.within in let size = are.events in let as_many = also.events in omega (arith, own, size, as_many);
    taken = λ a reply place at lt. let e = end_moved other history more processes rows also are a reply place at in is.taken a e.0 place e.1 lt;
    first = λ lt.
        let size = are.events in
        let as_many = also.events in
        let f = is.first (omega (arith, lt, size, as_many)) in
        let e = end_moved history other processes more rows are also f.0 f.1 limit f.2 in
        (f.0, e.0, e.1, f.3);
  }

module _ (rows : Rows) (counts : List ℕ) where
  -- the next call of a process ends with this
  abbrev pub IsNextEnd : ℕ → Ended → Type 0
  IsNextEnd process end = slice_get (row_of (ended_rows rows) process) (get_or counts process 0) ≡ Some end

  -- the least of the places at which the next calls of the first processes end
  pub record IsLeastEnd (processes limit : ℕ) : Type 0 where
    pub within : limit ≤ rows.events
    pub less : (q : ℕ) (e : Ended) → q < processes → IsNextEnd q e → limit ≤ e.place
    pub is : (limit ≡ rows.events) ⊎ ((q : ℕ) × (e : Ended) × IsNextEnd q e × (limit ≡ e.place))

  pub least_start : IsLeastEnd 0 rows.events
  least_start = record { within = omega arith; less = λ q e lt at. absurd (omega (arith, lt)); is = inl refl }

  -- one process more, whose next call does not end
  pub least_kept : (p limit : ℕ) → IsLeastEnd p limit → slice_get (row_of (ended_rows rows) p) (get_or counts p 0) ≡ None → IsLeastEnd (p + 1) limit
  least_kept p limit h none = record {
    within = h.within;
    less = λ q e lt at. elim (cases_lt q p) [
      | inl less ↦ h.less q e less at
      | inr ge ↦
          let same : q ≡ p = omega (arith, lt, ge) in
          let there : ◌≡◌ {A = Option Ended} None (Some e) = sym none ∙ ap (λ (x : ℕ). slice_get (row_of (ended_rows rows) x) (get_or counts x 0)) (sym same) ∙ at in absurd (cc)
    ];
    is = h.is;
  }

  -- one process more, whose next call ends
  pub least_more : (p limit least : ℕ) (end : Ended) → IsLeastEnd p limit → IsNextEnd p end → least ≡ min limit end.place → IsLeastEnd (p + 1) least
  least_more p limit least end h next is = record {
    within = let w = h.within in omega (arith, w, is);
    less = λ q e lt at. elim (cases_lt q p) [
      | inl less ↦ let le = h.less q e less at in omega (arith, le, is)
      | inr ge ↦
          let same : q ≡ p = omega (arith, lt, ge) in
          let here : end ≡ e = same_Some end e (sym next ∙ ap (λ (x : ℕ). slice_get (row_of (ended_rows rows) x) (get_or counts x 0)) (sym same) ∙ at) in
          let place : end.place ≡ e.place = ap (λ (x : Ended). x.place) here in
          omega (arith, place, is)
    ];
    is = elim (cases_lt end.place limit) [
      | inl lt ↦ inr (p, end, next, omega (arith, lt, is))
      | inr ge ↦
          let same : least ≡ limit = omega (arith, ge, is) in
          elim h.is [
            | inl e ↦ inl (same ∙ e)
            | inr some ↦ inr (some.0, some.1, some.2, same ∙ some.3)
          ]
    ];
  }

  -- there is one
  least_with : (p limit : ℕ) → IsLeastEnd p limit → (o : Option Ended) → slice_get (row_of (ended_rows rows) p) (get_or counts p 0) ≡ o → (least : ℕ) × IsLeastEnd (p + 1) least
  least_with p limit h None at = (limit, least_kept p limit h at)
  least_with p limit h (Some end) at = (min limit end.place, least_more p limit (min limit end.place) end h at refl)

  some_least : (p : ℕ) → (least : ℕ) × IsLeastEnd p least
  some_least zero = (rows.events, least_start)
  some_least (suc p) =
      let h = some_least p in
      let more = least_with p h.0 h.1 (slice_get (row_of (ended_rows rows) p) (get_or counts p 0)) refl in
      let next : p + 1 ≡ suc p = omega arith in
      (more.0, subst (λ (n : ℕ). IsLeastEnd n more.0) next more.1)

  module _ (history : List (Event ObjectCall Reply)) (are : AreRows history (length counts) rows) (limit : ℕ) (least : IsLeastEnd (length counts) limit) where
    taken_below : (a : CallId) (reply : Reply) (place : ℕ) → slice_get history place ≡ Some (End a reply) → place < limit → IsTaken counts a
    taken_below a reply place at lt =
        let every = are.every_ended a reply (contains_at history place (End a reply) at) in
        let positive = every.1 in
        elim (cases_lt (get_or counts a.process 0) a.number) [
          | inr le ↦ (positive, le)
          | inl less ↦
              let row = row_of (ended_rows rows) a.process in
              let inside = slice_get_within row (a.number - 1) every.2 every.3 in
              let next = slice_get_some row (get_or counts a.process 0) (omega (arith, inside, less)) in
              let first = least.less a.process next.0 every.0 next.1 in
              let own = are.ended a.process (get_or counts a.process 0) next.0 next.1 in
              elim (cases_eq (get_or counts a.process 0 + 1) a.number) [
                | inl e ↦
                    let same : call_at a.process (get_or counts a.process 0) ≡ a = same_call (call_at a.process (get_or counts a.process 0)) a refl e in
                    let once = one_end history are.whole a next.0.place place (seen_reply next.0.reply) reply (subst (λ (i : CallId). slice_get history next.0.place ≡ Some (End i (seen_reply next.0.reply))) same own) at in
                    absurd (omega (arith, first, lt, once))
                | inr ne ↦
                    let turn = ends_in_turn history are.whole (call_at a.process (get_or counts a.process 0)) a (seen_reply next.0.reply) reply next.0.place place refl (omega (arith, less, ne)) own at in
                    absurd (omega (arith, first, lt, turn))
              ]
        ]

    first_at : limit < length history → (a : CallId) × (reply : Reply) × (slice_get history limit ≡ Some (End a reply)) × ¬ IsTaken counts a
    first_at lt =
        let size = are.events in
        elim least.is [
          | inl e ↦ absurd (omega (arith, lt, size, e))
          | inr some ↦ (
            call_at some.0 (get_or counts some.0 0),
            seen_reply some.1.reply,
            ap (slice_get history) some.3 ∙ are.ended some.0 (get_or counts some.0 0) some.1 some.2,
            λ t. let le = t.1 in omega (arith, le),
          )
        ]

    pub limit_is : IsLimit history counts limit
    limit_is = record { within = let w = least.within in let size = are.events in omega (arith, w, size); taken = taken_below; first = first_at }

  -- where a next call ends at a place or before it, the limit is no farther
  pub limit_within : (history : List (Event ObjectCall Reply)) → AreRows history (length counts) rows → (q : ℕ) (end : Ended) (place : ℕ) → q < length counts → IsNextEnd q end → end.place ≤ place → IsWithin history counts place
  limit_within history are q end place inside next le =
      let least = some_least (length counts) in
      let less = least.1.less q end inside next in
      record { limit = least.0; is = limit_is history are least.0 least.1; within = omega (arith, less, le) }
