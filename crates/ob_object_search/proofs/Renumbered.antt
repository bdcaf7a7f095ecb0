-- A part, where the calls of each process count from 1, and the same by the numbers that they have in the whole history: its legal orders
-- are the same orders by those numbers.
use Rattle.std.proofs.Common.{◌≡◌, ◌∙◌, ℕ, ◌+◌, ◌-◌, ◌<◌, List, length, map, Some, sym, ap, subst, refl, arith, get_or, take}
use Rattle.std.proofs.lemmas.List.{take-map}
use Rattle.std.proofs.lemmas.Option.{slice_get-get_or}
use Rattle.ob_interface.specs.Call.{ObjectCall, Reply}
use Rattle.ob_object_search.proofs.Renamed.{ComesBack, Renames, at_map, at_mapped, has_unnamed, last_named, legal_named, legal_there, needless_named, needless_there, place_found, place_in, turned, turned_back}
use Rattle.ob_object_search.specs.NumberedParts.{IsPartHere, named_call, named_part}
use Rattle.ob_text_reading.specs.Names.{AreApart, AreBelow, IsBelow, named_id}
use Rattle.wf_history.proofs.Positions.{contains_at, place_of, place_take, same_call}
use Rattle.wf_history.specs.declared.event.CallId.{CallId}
use Rattle.wf_history.specs.History.{Event, Begin, Applied, End}
use Rattle.wf_history.specs.Legal.{IsLegal}
use Rattle.wf_needed.specs.Needed.{NoneIsNeedless}
use Rattle.wf_order.specs.Rows.{row_of}
use Rattle.wf_order.specs.Verdict.{HasLegal, IsLastLegal}
use Rattle.wf_order.proofs.Lists.{map-map}
use Rattle.wf_parts.specs.Numbering.{AreNumbered, HasNumber, PartView, whole_event, whole_events, whole_id}
use Rattle.wf_parts.specs.Parts.{Events}

whole_begin : (rows : List (List ℕ)) (e : Event ObjectCall Reply) (id : CallId) (call : ObjectCall) → whole_event rows e ≡ Begin id call → (old : CallId) × (e ≡ Begin old call) × (whole_id rows old ≡ id)
whole_begin rows (Begin old own) id call h =
    let same : own ≡ call = cc in
    let is : whole_id rows old ≡ id = cc in
    (old, ap (λ (c : ObjectCall). Begin old c) same, is)
whole_begin rows (Applied ids) id call h = absurd (cc)
whole_begin rows (End old own) id call h = absurd (cc)

whole_end : (rows : List (List ℕ)) (e : Event ObjectCall Reply) (id : CallId) (reply : Reply) → whole_event rows e ≡ End id reply → (old : CallId) × (e ≡ End old reply) × (whole_id rows old ≡ id)
whole_end rows (Begin old own) id reply h = absurd (cc)
whole_end rows (Applied ids) id reply h = absurd (cc)
whole_end rows (End old own) id reply h =
    let same : own ≡ reply = cc in
    let is : whole_id rows old ≡ id = cc in
    (old, ap (λ (r : Reply). End old r) same, is)

rows_rename : (rows : List (List ℕ)) (events : Events) → Renames (whole_id rows) events (whole_events rows events)
rows_rename rows events = record {
  begins = λ place id call at. at_map (whole_event rows) events place (Begin id call) at;
  ends = λ place id reply at. at_map (whole_event rows) events place (End id reply) at;
  begun = λ place id call at.
      let m = at_mapped (whole_event rows) events place (Begin id call) at in
      let b = whole_begin rows m.0 id call m.2 in
      (b.0, m.1 ∙ ap (λ (e : Event ObjectCall Reply). Some e) b.1, b.2);
  ended = λ place id reply at.
      let m = at_mapped (whole_event rows) events place (End id reply) at in
      let e = whole_end rows m.0 id reply m.2 in
      (e.0, m.1 ∙ ap (λ (x : Event ObjectCall Reply). Some x) e.1, e.2);
}

-- the call of the part that has this number in the whole history
abbrev part_id : List (List ℕ) → CallId → CallId
part_id rows id = record { process = id.process; number = place_in (row_of rows id.process) id.number + 1 }

module _ (rows : List (List ℕ)) (events : Events) (numbered : AreNumbered rows events) where
  comes_back : (id : CallId) → HasNumber rows id → part_id rows (whole_id rows id) ≡ id
  comes_back id h =
      let row = row_of rows id.process in
      let low = h.0 in
      let high = h.1 in
      let within : id.number - 1 < length row = omega (arith, low, high) in
      let n = get_or row (id.number - 1) 0 in
      let p = place_found row (id.number - 1) n within refl in
      let same : place_in row n ≡ id.number - 1 =
      numbered.apart id.process (place_in row n) (id.number - 1) n (slice_get-get_or row (place_in row n) 0 p.0 ∙ ap (λ (k : ℕ). Some k) p.1) (slice_get-get_or row (id.number - 1) 0 within) in
      same_call (part_id rows (whole_id rows id)) id refl (omega (arith, same, low))

  all_back : ComesBack (whole_id rows) (part_id rows) events
  all_back = record {
    begin = λ place id call at. comes_back id (numbered.within (Begin id call) (contains_at events place (Begin id call) at));
    end = λ place id reply at. comes_back id (numbered.within (End id reply) (contains_at events place (End id reply) at));
  }

  numbered_taken : (n : ℕ) → AreNumbered rows (take n events)
  numbered_taken n = record {
    within = λ e h.
        let k = place_of (take n events) e h in
        let at = place_take n events k.0 e k.1 in
        numbered.within e (contains_at events k.0 e at.0);
    apart = numbered.apart;
  }

  module _ {State : Type 0} (Effect : ObjectCall → State → State → Reply → Type 0) (opening : State) where
    legal_whole : (last : State) (order : List CallId) → IsLegal Effect opening events order last → IsLegal Effect opening (whole_events rows events) (map (whole_id rows) order) last
    legal_whole = legal_there Effect (whole_id rows) (part_id rows) events (whole_events rows events) (rows_rename rows events) all_back opening

    legal_part : (last : State) (order : List CallId) → IsLegal Effect opening (whole_events rows events) order last → IsLegal Effect opening events (map (part_id rows) order) last
    legal_part =
        legal_there Effect (part_id rows) (whole_id rows) (whole_events rows events) events
        (turned (whole_id rows) (part_id rows) events (whole_events rows events) (rows_rename rows events) all_back)
        (turned_back (whole_id rows) (part_id rows) events (whole_events rows events) (rows_rename rows events) all_back) opening

    needless_whole : (last : State) (order : List CallId) → IsLegal Effect opening events order last → NoneIsNeedless Effect opening events order →
        NoneIsNeedless Effect opening (whole_events rows events) (map (whole_id rows) order)
    needless_whole = needless_there Effect (whole_id rows) (part_id rows) events (whole_events rows events) (rows_rename rows events) all_back opening

    has_whole : HasLegal Effect opening events → HasLegal Effect opening (whole_events rows events)
    has_whole h = (map (whole_id rows) h.0, h.1, legal_whole h.1 h.0 h.2)

    has_part : HasLegal Effect opening (whole_events rows events) → HasLegal Effect opening events
    has_part h = (map (part_id rows) h.0, h.1, legal_part h.1 h.0 h.2)

module _ (rows : List (List ℕ)) (events : Events) (numbered : AreNumbered rows events) {State : Type 0} (Effect : ObjectCall → State → State → Reply → Type 0) (opening : State) where
  taken_whole : (n : ℕ) → take n (whole_events rows events) ≡ whole_events rows (take n events)
  taken_whole n = take-map (whole_event rows) n events

  has_whole_front : (n : ℕ) → HasLegal Effect opening (take n events) → HasLegal Effect opening (take n (whole_events rows events))
  has_whole_front n h =
      subst (λ (l : Events). HasLegal Effect opening l) (sym (taken_whole n)) (has_whole rows (take n events) (numbered_taken rows events numbered n) Effect opening h)

  has_part_front : (n : ℕ) → HasLegal Effect opening (take n (whole_events rows events)) → HasLegal Effect opening (take n events)
  has_part_front n h =
      has_part rows (take n events) (numbered_taken rows events numbered n) Effect opening (subst (λ (l : Events). HasLegal Effect opening l) (taken_whole n) h)

  last_whole : (place : ℕ) (l : IsLastLegal Effect opening events place) → (m : IsLastLegal Effect opening (whole_events rows events) place) × (m.id ≡ whole_id rows l.id)
  last_whole place l = (
    record {
      id = whole_id rows l.id;
      reply = l.reply;
      end = at_map (whole_event rows) events place (End l.id l.reply) l.end;
      legal = has_whole_front place l.legal;
      none = λ h. l.none (has_part_front (place + 1) h);
    },
    refl,
  )

below_event : (n : ℕ) (rows : List (List ℕ)) (e : Event ObjectCall Reply) → IsBelow n e → IsBelow n (whole_event rows e)
below_event n rows (Begin id call) h = h
below_event n rows (Applied ids) h = tt
below_event n rows (End id reply) h = h

-- the same by the names of processes
module _ (names : List ℕ) (apart : AreApart names) (p : PartView) (here : IsPartHere names p) {State : Type 0} (Effect : ObjectCall → State → State → Reply → Type 0) (opening : State) where
  below_whole : AreBelow (length names) (whole_events p.rows p.events)
  below_whole e h =
      let k = place_of (whole_events p.rows p.events) e h in
      let m = at_mapped (whole_event p.rows) p.events k.0 e k.1 in
      subst (λ (x : Event ObjectCall Reply). IsBelow (length names) x) m.2 (below_event (length names) p.rows m.0 (here.below m.0 (contains_at p.events k.0 m.0 m.1)))

  pub legal_here : (last : State) (order : List CallId) → IsLegal Effect opening p.events order last → IsLegal Effect opening (named_part names p) (map (named_call names p.rows) order) last
  legal_here last order l =
      subst (λ (ids : List CallId). IsLegal Effect opening (named_part names p) ids last) (map-map (named_id names) (whole_id p.rows) order)
      (legal_named names apart (whole_events p.rows p.events) below_whole Effect opening last (map (whole_id p.rows) order) (legal_whole p.rows p.events here.numbered Effect opening last order l))

  pub needed_here : (last : State) (order : List CallId) → IsLegal Effect opening p.events order last → NoneIsNeedless Effect opening p.events order →
      NoneIsNeedless Effect opening (named_part names p) (map (named_call names p.rows) order)
  needed_here last order l needed =
      subst (λ (ids : List CallId). NoneIsNeedless Effect opening (named_part names p) ids) (map-map (named_id names) (whole_id p.rows) order)
      (needless_named names apart (whole_events p.rows p.events) below_whole Effect opening last (map (whole_id p.rows) order) (legal_whole p.rows p.events here.numbered Effect opening last order l)
      (needless_whole p.rows p.events here.numbered Effect opening last order l needed))

  pub has_back : HasLegal Effect opening (named_part names p) → HasLegal Effect opening p.events
  has_back h = has_part p.rows p.events here.numbered Effect opening (has_unnamed names apart (whole_events p.rows p.events) below_whole Effect opening h)

  pub last_here : (place : ℕ) (l : IsLastLegal Effect opening p.events place) → (m : IsLastLegal Effect opening (named_part names p) place) × (m.id ≡ named_call names p.rows l.id)
  last_here place l =
      let w = last_whole p.rows p.events here.numbered Effect opening place l in
      let m = last_named names apart (whole_events p.rows p.events) below_whole Effect opening place w.0 in
      (m.0, m.1 ∙ ap (named_id names) w.1)
