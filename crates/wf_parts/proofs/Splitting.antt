-- The table of parts, with one event more of the history.
use Rattle.std.proofs.Common.{◌≡◌, ◌≢◌, ◌∙◌, refl, sym, ap, subst, ℕ, ◌+◌, zero, suc, Bool, cond, List, [], ◌∷◌, ◌++◌, inl, inr, length, set, slice_get, map, take, drop, Option, Some, None, append_assoc}
use Rattle.std.proofs.lemmas.Bool.{cases_eq, eq-eqb, ne_eqb}
use Rattle.std.proofs.lemmas.List.{map-append, map-set, take-append-drop}
use Rattle.std.proofs.lemmas.Option.{same_Some, slice_get-map}
use Rattle.std.specs.List.{Contains}
use Rattle.std.specs.Prelude.{option_map}
use Rattle.ob_interface.specs.Call.{ObjectCall, Reply}
use Rattle.ob_interface.specs.declared.scalar.Scalar.{Scalar}
use Rattle.wf_history.proofs.Positions.{contains_at, one_item, place_here, place_left, place_of, place_push, take_next}
use Rattle.wf_history.specs.declared.event.CallId.{CallId}
use Rattle.wf_history.specs.History.{Event, Begin, Applied, End, IsHistory}
use Rattle.wf_lookup.proofs.Turns.{front_whole}
use Rattle.wf_order.specs.Rows.{call_at}
use Rattle.wf_parts.proofs.Picking.{one_value, same_label, values_known, values_new, values_quiet}
use Rattle.wf_parts.proofs.Seating.{is_call_at}
use Rattle.wf_parts.proofs.Stepping.{may_begin, may_end, part_begins, part_ends, part_stays}
use Rattle.wf_parts.proofs.Turning.{begin_idle, begun_busy, end_busy, ended_idle, foreign_begin, foreign_end, not_both, same_busy, same_events}
use Rattle.wf_parts.specs.Label.{label_of}
use Rattle.wf_parts.specs.Numbering.{ArePartsOf, PartView, value_of}
use Rattle.wf_parts.specs.Parts.{AreValues, Events, IsOwn, IsWith, argument_at, none}
use Rattle.wf_parts.specs.Split.{AreSplit, Begins, Ends, IsBusy, IsNext, IsPartSoFar, IsPlaced, SplitView, empty_part, known, added, last_id, next_id, with_entry}

-- lists with one item changed

module _ {A : Type 0} where
  set_here : (xs : List A) (i : ℕ) (x y : A) → slice_get xs i ≡ Some x → slice_get (set xs i y) i ≡ Some y
  set_here [] i x y h = absurd (cc)
  set_here (a ∷ xs) zero x y h = refl
  set_here (a ∷ xs) (suc i) x y h = set_here xs i x y h

  set_apart : (xs : List A) (i k : ℕ) (y : A) → k ≢ i → slice_get (set xs i y) k ≡ slice_get xs k
  set_apart [] i k y d = refl
  set_apart (a ∷ xs) zero zero y d = absurd (d refl)
  set_apart (a ∷ xs) zero (suc k) y d = refl
  set_apart (a ∷ xs) (suc i) zero y d = refl
  set_apart (a ∷ xs) (suc i) (suc k) y d = set_apart xs i k y (λ e. d (ap suc e))

  set_same : (xs : List A) (i : ℕ) (x : A) → slice_get xs i ≡ Some x → set xs i x ≡ xs
  set_same [] i x h = refl
  set_same (a ∷ xs) zero x h = ap (λ (y : A). y ∷ xs) (sym (same_Some a x h))
  set_same (a ∷ xs) (suc i) x h = ap (λ (ys : List A). a ∷ ys) (set_same xs i x h)

-- what is looked up, with one more entry
module _ (entries : ℕ → Option ℕ) (key value : ℕ) where
  entry_here : (q : ℕ) → key ≡ q → with_entry entries key value q ≡ Some value
  entry_here q same = ap (λ (b : Bool). cond b (Some value) (entries q)) (eq-eqb key q same)

  entry_apart : (q : ℕ) → key ≢ q → with_entry entries key value q ≡ entries q
  entry_apart q apart = ap (λ (b : Bool). cond b (Some value) (entries q)) (ne_eqb key q apart)

-- values of parts
at_value : (parts : List PartView) (k : ℕ) (p : PartView) → slice_get parts k ≡ Some p → slice_get (map value_of parts) k ≡ Some p.value
at_value parts k p h = slice_get-map value_of parts k ∙ ap (option_map value_of) h

value_at : (parts : List PartView) (k : ℕ) (v : Scalar) → slice_get (map value_of parts) k ≡ Some v → (p : PartView) × (slice_get parts k ≡ Some p) × (p.value ≡ v)
value_at [] k v h = absurd (cc)
value_at (p ∷ parts) zero v h = (p, refl, same_Some p.value v h)
value_at (p ∷ parts) (suc k) v h = value_at parts k v h

some_none : {A : Type 0} (x : A) → Some x ≡ None → ⊥
some_none x h = cc

module _ (all : Events) (by : ℕ) (front : Events) (e : Event ObjectCall Reply) (n : IsNext all front e) where
  pub after_whole : IsHistory (front ++ e ∷ [])
  after_whole = front_whole (front ++ e ∷ []) n.rest (subst (λ (es : Events). IsHistory es) (n.parts ∙ sym (append_assoc front (e ∷ []) n.rest)) n.whole)

  pub so_far_whole : IsHistory front
  so_far_whole = front_whole front (e ∷ n.rest) (subst (λ (es : Events). IsHistory es) n.parts n.whole)

  among : Contains all e
  among = subst (λ (es : Events). Contains es e) (sym n.parts) (contains_at (front ++ e ∷ n.rest) (length front) e (place_here front n.rest e))

  -- a table at which the part at a place has one event more
  module _ (places : ℕ → Option ℕ) (parts : List PartView)
      (placed : (k : ℕ) (p : PartView) → slice_get parts k ≡ Some p → places (label_of p.value) ≡ Some k)
      (back : (label k : ℕ) → places label ≡ Some k → (p : PartView) × (slice_get parts k ≡ Some p) × (label_of p.value ≡ label))
      (each : (k : ℕ) (p : PartView) → slice_get parts k ≡ Some p → IsPartSoFar all by front p)
      (unborn : (value : Scalar) → places (label_of value) ≡ None → IsPartSoFar all by front (empty_part value))
      (place : ℕ) (p q : PartView) (at : slice_get parts place ≡ Some p) (value : q.value ≡ p.value) (own : IsPartSoFar all by (front ++ e ∷ []) q)
      (only : (v : Scalar) → IsOwn all by v e → v ≡ p.value) where
    same_values : map value_of (set parts place q) ≡ map value_of parts
    same_values =
        map-set value_of parts place q ∙ ap (set (map value_of parts) place) value
        ∙ set_same (map value_of parts) place p.value (at_value parts place p at)

    same_place : (k : ℕ) (x : PartView) → slice_get parts k ≡ Some x → x.value ≡ p.value → k ≡ place
    same_place k x here same = same_Some k place (sym (placed k x here) ∙ ap (λ (v : Scalar). places (label_of v)) same ∙ placed place p at)

    placed_after : (k : ℕ) (x : PartView) → slice_get (set parts place q) k ≡ Some x → places (label_of x.value) ≡ Some k
    placed_after k x h =
        elim (cases_eq k place) [
          | inl same ↦
              let is : q ≡ x = one_item (set parts place q) place q x (set_here parts place p q at) (subst (λ (i : ℕ). slice_get (set parts place q) i ≡ Some x) same h) in
              ap (λ (y : PartView). places (label_of y.value)) (sym is) ∙ ap (λ (v : Scalar). places (label_of v)) value ∙ placed place p at ∙ ap (λ (i : ℕ). Some i) (sym same)
          | inr apart ↦ placed k x (sym (set_apart parts place k q apart) ∙ h)
        ]

    back_after : (label k : ℕ) → places label ≡ Some k → (x : PartView) × (slice_get (set parts place q) k ≡ Some x) × (label_of x.value ≡ label)
    back_after label k h =
        let b = back label k h in
        elim (cases_eq k place) [
          | inl same ↦
              let is : b.0 ≡ p = one_item parts place b.0 p (subst (λ (i : ℕ). slice_get parts i ≡ Some b.0) same b.1) at in
              (q, subst (λ (i : ℕ). slice_get (set parts place q) i ≡ Some q) (sym same) (set_here parts place p q at), ap label_of value ∙ ap (λ (y : PartView). label_of y.value) (sym is) ∙ b.2)
          | inr apart ↦ (b.0, set_apart parts place k q apart ∙ b.1, b.2)
        ]

    each_after : (k : ℕ) (x : PartView) → slice_get (set parts place q) k ≡ Some x → IsPartSoFar all by (front ++ e ∷ []) x
    each_after k x h =
        elim (cases_eq k place) [
          | inl same ↦
              let is : q ≡ x = one_item (set parts place q) place q x (set_here parts place p q at) (subst (λ (i : ℕ). slice_get (set parts place q) i ≡ Some x) same h) in
              subst (λ (y : PartView). IsPartSoFar all by (front ++ e ∷ []) y) is own
          | inr apart ↦
              let here = sym (set_apart parts place k q apart) ∙ h in
              part_stays all by front e x so_far_whole after_whole (λ is. apart (same_place k x here (only x.value is))) (each k x here)
        ]

    unborn_after : (v : Scalar) → places (label_of v) ≡ None → IsPartSoFar all by (front ++ e ∷ []) (empty_part v)
    unborn_after v gone =
        part_stays all by front e (empty_part v) so_far_whole after_whole
        (λ is. some_none place (sym (placed place p at) ∙ ap (λ (w : Scalar). places (label_of w)) (sym (only v is)) ∙ gone)) (unborn v gone)

    -- where the part of a call stands now
    stands_after : (k : ℕ) (x : PartView) (id : CallId) → slice_get parts k ≡ Some x → IsWith all by x.value id → (y : PartView) × (slice_get (set parts place q) k ≡ Some y) × IsWith all by y.value id
    stands_after k x id here is =
        elim (cases_eq k place) [
          | inl same ↦
              let same_part : x ≡ p = one_item parts place x p (subst (λ (i : ℕ). slice_get parts i ≡ Some x) same here) at in
              (q, subst (λ (i : ℕ). slice_get (set parts place q) i ≡ Some q) (sym same) (set_here parts place p q at), subst (λ (v : Scalar). IsWith all by v id) (ap (λ (y : PartView). y.value) same_part ∙ sym value) is)
          | inr apart ↦ (x, set_apart parts place k q apart ∙ here, is)
        ]

-- a call begins
module _ (all : Events) (by : ℕ) (front : Events) (id : CallId) (call : ObjectCall) (value : Scalar) (old mid : SplitView) (s : AreSplit all by front old) (n : IsNext all front (Begin id call))
    (argument : argument_at by call ≡ Some value) (place : ℕ) where
  abbrev After : Events
  After = front ++ Begin id call ∷ []

  is_with : IsWith all by value id
  is_with = record { call = call; begun = among all by front (Begin id call) n; argument = argument }

  -- the table with the part of the value
  record HasPlace : Type 0 where
    part : PartView
    at : slice_get mid.parts place ≡ Some part
    value_is : part.value ≡ value
    placed : (k : ℕ) (p : PartView) → slice_get mid.parts k ≡ Some p → mid.places (label_of p.value) ≡ Some k
    back : (label k : ℕ) → mid.places label ≡ Some k → (p : PartView) × (slice_get mid.parts k ≡ Some p) × (label_of p.value ≡ label)
    each : (k : ℕ) (p : PartView) → slice_get mid.parts k ≡ Some p → IsPartSoFar all by front p
    unborn : (v : Scalar) → mid.places (label_of v) ≡ None → IsPartSoFar all by front (empty_part v)
    last : (q m : ℕ) → IsBusy front q m → (k : ℕ) × (p : PartView) × (mid.last q ≡ Some k) × (slice_get mid.parts k ≡ Some p) × IsWith all by p.value (call_at q m)
    values : AreValues by After (map value_of mid.parts)

  place_known : old.places (label_of value) ≡ Some place → mid.parts ≡ old.parts → ((q : ℕ) → mid.places q ≡ old.places q) → ((q : ℕ) → mid.last q ≡ old.last q) → HasPlace
  place_known there parts places last =
      let b = s.back (label_of value) place there in
      let is : b.0.value ≡ value = same_label b.0.value value b.2 in
      record {
        part = b.0;
        at = ap (λ (ps : List PartView). slice_get ps place) parts ∙ b.1;
        value_is = is;
        placed = λ k p at. places (label_of p.value) ∙ s.placed k p (sym (ap (λ (ps : List PartView). slice_get ps k) parts) ∙ at);
        back = λ label k at.
            let r = s.back label k (sym (places label) ∙ at) in
            (r.0, ap (λ (ps : List PartView). slice_get ps k) parts ∙ r.1, r.2);
        each = λ k p at. s.each k p (sym (ap (λ (ps : List PartView). slice_get ps k) parts) ∙ at);
        unborn = λ v none. s.unborn v (sym (places (label_of v)) ∙ none);
        last = λ q m busy.
            let r = s.last q m busy in
            (r.0, r.1, last q ∙ r.2, ap (λ (ps : List PartView). slice_get ps r.0) parts ∙ r.3, r.4);
        values = subst (λ (ps : List PartView). AreValues by After (map value_of ps)) (sym parts)
            (values_known by [] (map value_of old.parts) front id call value argument
            (contains_at (map value_of old.parts) place value (at_value old.parts place b.0 b.1 ∙ ap (λ (v : Scalar). Some v) is)) s.values);
      }

  place_added : old.places (label_of value) ≡ None → place ≡ length old.parts → mid.parts ≡ old.parts ++ empty_part value ∷ [] → ((q : ℕ) → mid.places q ≡ with_entry old.places (label_of value) place q) →
      ((q : ℕ) → mid.last q ≡ old.last q) → HasPlace
  place_added missing end parts places last =
      record {
        part = empty_part value;
        at = at_end;
        value_is = refl;
        placed = λ k p at.
            elim (place_push old.parts (empty_part value) k p (sym (ap (λ (ps : List PartView). slice_get ps k) parts) ∙ at)) [
              | inl early ↦
                  places (label_of p.value)
                  ∙ entry_apart old.places (label_of value) place (label_of p.value)
                  (λ same. some_none k (sym (s.placed k p early) ∙ ap old.places (sym same) ∙ missing))
                  ∙ s.placed k p early
              | inr here ↦
                  places (label_of p.value) ∙ entry_here old.places (label_of value) place (label_of p.value) (ap (λ (x : PartView). label_of x.value) here.1)
                  ∙ ap (λ (i : ℕ). Some i) (end ∙ sym here.0)
            ];
        back = λ label k at.
            elim (cases_eq (label_of value) label) [
              | inl same ↦
                  let is : place ≡ k = same_Some place k (sym (places label ∙ entry_here old.places (label_of value) place label same) ∙ at) in
                  (empty_part value, subst (λ (i : ℕ). slice_get mid.parts i ≡ Some (empty_part value)) is at_end, same)
              | inr apart ↦
                  let r = s.back label k (sym (places label ∙ entry_apart old.places (label_of value) place label apart) ∙ at) in
                  (r.0, left k r.0 r.1, r.2)
            ];
        each = λ k p at.
            elim (place_push old.parts (empty_part value) k p (sym (ap (λ (ps : List PartView). slice_get ps k) parts) ∙ at)) [
              | inl early ↦ s.each k p early
              | inr here ↦ subst (λ (x : PartView). IsPartSoFar all by front x) here.1 (s.unborn value missing)
            ];
        unborn = λ v none.
            elim (cases_eq (label_of value) (label_of v)) [
              | inl same ↦ absurd (some_none place (sym (places (label_of v) ∙ entry_here old.places (label_of value) place (label_of v) same) ∙ none))
              | inr apart ↦ s.unborn v (sym (places (label_of v) ∙ entry_apart old.places (label_of value) place (label_of v) apart) ∙ none)
            ];
        last = λ q m busy.
            let r = s.last q m busy in
            (r.0, r.1, last q ∙ r.2, left r.0 r.1 r.3, r.4);
        values = subst (λ (vs : List Scalar). AreValues by After vs) (sym (ap (map value_of) parts ∙ map-append value_of old.parts (empty_part value ∷ [])))
            (values_new by [] (map value_of old.parts) front id call value argument fresh s.values);
      }
    where
      left : (k : ℕ) (p : PartView) → slice_get old.parts k ≡ Some p → slice_get mid.parts k ≡ Some p
      left k p h = ap (λ (ps : List PartView). slice_get ps k) parts ∙ place_left old.parts (empty_part value ∷ []) k p h

      at_end : slice_get mid.parts place ≡ Some (empty_part value)
      at_end = ap (slice_get mid.parts) end ∙ ap (λ (ps : List PartView). slice_get ps (length old.parts)) parts ∙ place_here old.parts [] (empty_part value)

      fresh : ¬ Contains (map value_of old.parts) value
      fresh c =
          let k = place_of (map value_of old.parts) value c in
          let p = value_at old.parts k.0 value k.1 in
          some_none k.0 (sym (s.placed k.0 p.0 p.1) ∙ ap (λ (v : Scalar). old.places (label_of v)) p.2 ∙ missing)

  has_place : IsPlaced old mid value place → HasPlace
  has_place (known there parts places last) = place_known there parts places last
  has_place (added missing end parts places last) = place_added missing end parts places last

  module _ (h : IsPlaced old mid value place) where
    abbrev own_place : HasPlace
    own_place = has_place h

    own_with : IsWith all by own_place.part.value id
    own_with = subst (λ (v : Scalar). IsWith all by v id) (sym own_place.value_is) is_with

    pub begins_next : (p : PartView) → slice_get mid.parts place ≡ Some p → IsHistory (p.events ++ Begin (next_id p.rows id.process) call ∷ [])
    begins_next p at =
        subst (λ (x : PartView). IsHistory (x.events ++ Begin (next_id x.rows id.process) call ∷ [])) (one_item mid.parts place own_place.part p own_place.at at)
        (may_begin all by front id call own_place.part (so_far_whole all by front (Begin id call) n) (after_whole all by front (Begin id call) n) own_with (own_place.each place own_place.part own_place.at))

    pub place_within : (p : PartView) × (slice_get mid.parts place ≡ Some p)
    place_within = (own_place.part, own_place.at)

    pub split_begins : (p q : PartView) → slice_get mid.parts place ≡ Some p → Begins p id call q → (new : SplitView) → new.parts ≡ set mid.parts place q → ((k : ℕ) → new.places k ≡ mid.places k) →
        ((k : ℕ) → new.last k ≡ with_entry mid.last id.process place k) → AreSplit all by After new
    split_begins p q at begins new parts places last =
        record {
          values = subst (λ (vs : List Scalar). AreValues by After vs) (sym (ap (map value_of) parts ∙ values_are)) own_place.values;
          placed = λ k x here. places (label_of x.value) ∙ placed_are k x (sym (ap (λ (ps : List PartView). slice_get ps k) parts) ∙ here);
          back = λ label k here.
              let r = back_are label k (sym (places label) ∙ here) in
              (r.0, ap (λ (ps : List PartView). slice_get ps k) parts ∙ r.1, r.2);
          each = λ k x here. each_are k x (sym (ap (λ (ps : List PartView). slice_get ps k) parts) ∙ here);
          unborn = λ v none. unborn_are v (sym (places (label_of v)) ∙ none);
          last = last_are;
        }
      where
        is : own_place.part ≡ p
        is = one_item mid.parts place own_place.part p own_place.at at

        value_is : p.value ≡ value
        value_is = ap (λ (x : PartView). x.value) (sym is) ∙ own_place.value_is

        with_p : IsWith all by p.value id
        with_p = subst (λ (v : Scalar). IsWith all by v id) (sym value_is) is_with

        own : IsPartSoFar all by After q
        own = part_begins all by front id call p (so_far_whole all by front (Begin id call) n) (after_whole all by front (Begin id call) n) with_p (own_place.each place p at) q begins

        only : (v : Scalar) → IsWith all by v id → v ≡ p.value
        only v other = one_value all by v p.value id n.whole other with_p

        values_are : map value_of (set mid.parts place q) ≡ map value_of mid.parts
        values_are =
            same_values all by front (Begin id call) n mid.places mid.parts own_place.placed own_place.back own_place.each own_place.unborn place p q at begins.value own only

        placed_are : (k : ℕ) (x : PartView) → slice_get (set mid.parts place q) k ≡ Some x → mid.places (label_of x.value) ≡ Some k
        placed_are =
            placed_after all by front (Begin id call) n mid.places mid.parts own_place.placed own_place.back own_place.each own_place.unborn place p q at begins.value own only

        back_are : (label k : ℕ) → mid.places label ≡ Some k → (x : PartView) × (slice_get (set mid.parts place q) k ≡ Some x) × (label_of x.value ≡ label)
        back_are =
            back_after all by front (Begin id call) n mid.places mid.parts own_place.placed own_place.back own_place.each own_place.unborn place p q at begins.value own only

        each_are : (k : ℕ) (x : PartView) → slice_get (set mid.parts place q) k ≡ Some x → IsPartSoFar all by After x
        each_are =
            each_after all by front (Begin id call) n mid.places mid.parts own_place.placed own_place.back own_place.each own_place.unborn place p q at begins.value own only

        unborn_are : (v : Scalar) → mid.places (label_of v) ≡ None → IsPartSoFar all by After (empty_part v)
        unborn_are =
            unborn_after all by front (Begin id call) n mid.places mid.parts own_place.placed own_place.back own_place.each own_place.unborn place p q at begins.value own only

        last_are : (r m : ℕ) → IsBusy After r m → (k : ℕ) × (x : PartView) × (new.last r ≡ Some k) × (slice_get new.parts k ≡ Some x) × IsWith all by x.value (call_at r m)
        last_are r m busy =
            elim (cases_eq id.process r) [
              | inl same ↦
                  let idle = begin_idle front id call (so_far_whole all by front (Begin id call) n) (after_whole all by front (Begin id call) n) in
                  let now = begun_busy front id call idle.0 idle.1 idle.2 in
                  let count : idle.0 ≡ m = same_busy After id.process idle.0 m now (subst (λ (k : ℕ). IsBusy After k m) (sym same) busy) in
                  let call_is : id ≡ call_at r m = is_call_at id idle.0 idle.2 ∙ ap (λ (k : ℕ). call_at k idle.0) same ∙ ap (call_at r) count in (
                    place,
                    q,
                    last r ∙ entry_here mid.last id.process place r same,
                    ap (λ (ps : List PartView). slice_get ps place) parts ∙ set_here mid.parts place p q at,
                    subst (λ (x : CallId). IsWith all by q.value x) call_is (subst (λ (v : Scalar). IsWith all by v id) (sym begins.value) with_p),
                  )
              | inr apart ↦
                  let was = sym (same_events front r (Begin id call) (foreign_begin id call r (λ e. apart (sym e)))) ∙ busy in
                  let o = own_place.last r m was in
                  let t =
                  stands_after all by front (Begin id call) n mid.places mid.parts own_place.placed own_place.back own_place.each own_place.unborn place p q at begins.value own only
                  o.0 o.1 (call_at r m) o.3 o.4 in
                  (o.0, t.0, last r ∙ entry_apart mid.last id.process place r apart ∙ o.2, ap (λ (ps : List PartView). slice_get ps o.0) parts ∙ t.1, t.2)
            ]

-- a call ends
module _ (all : Events) (by : ℕ) (front : Events) (id : CallId) (reply : Reply) (old : SplitView) (s : AreSplit all by front old) (n : IsNext all front (End id reply)) where
  abbrev Then : Events
  Then = front ++ End id reply ∷ []

  -- it is the call that its process began last
  ends_last : (k : ℕ) × (p : PartView) × (old.last id.process ≡ Some k) × (slice_get old.parts k ≡ Some p) × IsWith all by p.value id
  ends_last =
      let busy = end_busy front id reply (so_far_whole all by front (End id reply) n) (after_whole all by front (End id reply) n) in
      let l = s.last id.process busy.0 busy.1 in
      (l.0, l.1, l.2, l.3, subst (λ (x : CallId). IsWith all by l.1.value x) (sym (is_call_at id busy.0 busy.2)) l.4)

  pub has_last : old.last id.process ≡ None → ⊥
  has_last gone = some_none ends_last.0 (sym ends_last.2 ∙ gone)

  module _ (place : ℕ) (is_last : old.last id.process ≡ Some place) where
    place_is : ends_last.0 ≡ place
    place_is = same_Some ends_last.0 place (sym ends_last.2 ∙ is_last)

    pub ends_within : (p : PartView) × (slice_get old.parts place ≡ Some p)
    ends_within = (ends_last.1, subst (λ (k : ℕ). slice_get old.parts k ≡ Some ends_last.1) place_is ends_last.3)

    module _ (p : PartView) (at : slice_get old.parts place ≡ Some p) where
      ends_with : IsWith all by p.value id
      unfolding ends_last ends_within
      ends_with = subst (λ (x : PartView). IsWith all by x.value id) (one_item old.parts place ends_last.1 p ends_within.1 at) ends_last.4

      pub ends_next : IsHistory (p.events ++ End (last_id p.rows id.process) reply ∷ [])
      ends_next = may_end all by front id reply p (so_far_whole all by front (End id reply) n) (after_whole all by front (End id reply) n) ends_with (s.each place p at)

      pub split_ends : (q : PartView) → Ends p id reply q → (new : SplitView) → new.parts ≡ set old.parts place q → ((k : ℕ) → new.places k ≡ old.places k) → ((k : ℕ) → new.last k ≡ old.last k) →
          AreSplit all by Then new
      split_ends q ends new parts places last =
          record {
            values = subst (λ (vs : List Scalar). AreValues by Then vs) (sym (ap (map value_of) parts ∙ values_are))
                (values_quiet by [] (map value_of old.parts) front (End id reply) (λ i c same. cc) s.values);
            placed = λ k x here. places (label_of x.value) ∙ placed_are k x (sym (ap (λ (ps : List PartView). slice_get ps k) parts) ∙ here);
            back = λ label k here.
                let r = back_are label k (sym (places label) ∙ here) in
                (r.0, ap (λ (ps : List PartView). slice_get ps k) parts ∙ r.1, r.2);
            each = λ k x here. each_are k x (sym (ap (λ (ps : List PartView). slice_get ps k) parts) ∙ here);
            unborn = λ v none. unborn_are v (sym (places (label_of v)) ∙ none);
            last = last_are;
          }
        where
          own : IsPartSoFar all by Then q
          own = part_ends all by front id reply p (so_far_whole all by front (End id reply) n) (after_whole all by front (End id reply) n) ends_with (s.each place p at) q ends

          only : (v : Scalar) → IsWith all by v id → v ≡ p.value
          only v other = one_value all by v p.value id n.whole other ends_with

          values_are : map value_of (set old.parts place q) ≡ map value_of old.parts
          values_are = same_values all by front (End id reply) n old.places old.parts s.placed s.back s.each s.unborn place p q at ends.value own only

          placed_are : (k : ℕ) (x : PartView) → slice_get (set old.parts place q) k ≡ Some x → old.places (label_of x.value) ≡ Some k
          placed_are = placed_after all by front (End id reply) n old.places old.parts s.placed s.back s.each s.unborn place p q at ends.value own only

          back_are : (label k : ℕ) → old.places label ≡ Some k → (x : PartView) × (slice_get (set old.parts place q) k ≡ Some x) × (label_of x.value ≡ label)
          back_are = back_after all by front (End id reply) n old.places old.parts s.placed s.back s.each s.unborn place p q at ends.value own only

          each_are : (k : ℕ) (x : PartView) → slice_get (set old.parts place q) k ≡ Some x → IsPartSoFar all by Then x
          each_are = each_after all by front (End id reply) n old.places old.parts s.placed s.back s.each s.unborn place p q at ends.value own only

          unborn_are : (v : Scalar) → old.places (label_of v) ≡ None → IsPartSoFar all by Then (empty_part v)
          unborn_are = unborn_after all by front (End id reply) n old.places old.parts s.placed s.back s.each s.unborn place p q at ends.value own only

          last_are : (r m : ℕ) → IsBusy Then r m → (k : ℕ) × (x : PartView) × (new.last r ≡ Some k) × (slice_get new.parts k ≡ Some x) × IsWith all by x.value (call_at r m)
          last_are r m busy =
              elim (cases_eq id.process r) [
                | inl same ↦
                    let open_now = end_busy front id reply (so_far_whole all by front (End id reply) n) (after_whole all by front (End id reply) n) in
                    absurd (not_both Then id.process (open_now.0 + 1) m (ended_idle front id reply open_now.0 open_now.1 open_now.2) (subst (λ (k : ℕ). IsBusy Then k m) (sym same) busy))
                | inr apart ↦
                    let was = sym (same_events front r (End id reply) (foreign_end id reply r (λ e. apart (sym e)))) ∙ busy in
                    let o = s.last r m was in
                    let t = stands_after all by front (End id reply) n old.places old.parts s.placed s.back s.each s.unborn place p q at ends.value own only o.0 o.1 (call_at r m) o.3 o.4 in
                    (o.0, t.0, last r ∙ o.2, ap (λ (ps : List PartView). slice_get ps o.0) parts ∙ t.1, t.2)
              ]

-- other events
module _ (all : Events) (by : ℕ) (front : Events) (ids : List CallId) (old : SplitView) (s : AreSplit all by front old) (n : IsNext all front (Applied ids)) where
  pub split_stays : AreSplit all by (front ++ Applied ids ∷ []) old
  split_stays = record {
    values = values_quiet by [] (map value_of old.parts) front (Applied ids) (λ i c same. cc) s.values;
    placed = s.placed;
    back = s.back;
    each = λ k p at. part_stays all by front (Applied ids) p (so_far_whole all by front (Applied ids) n) (after_whole all by front (Applied ids) n) (λ is. is) (s.each k p at);
    unborn = λ v none. part_stays all by front (Applied ids) (empty_part v) (so_far_whole all by front (Applied ids) n) (after_whole all by front (Applied ids) n) (λ is. is) (s.unborn v none);
    last = λ q m busy. s.last q m (sym (same_events front q (Applied ids) refl) ∙ busy);
  }

-- no events
pub split_none : (all : Events) (by : ℕ) (s : SplitView) → ((q : ℕ) → s.places q ≡ None) → s.parts ≡ [] → AreSplit all by [] s
split_none all by s places parts = record {
  values = subst (λ (ps : List PartView). AreValues by [] (map value_of ps)) (sym parts) none;
  placed = λ k p at. absurd (missing k p at);
  back = λ label k at. absurd (some_none k (sym at ∙ places label));
  each = λ k p at. absurd (missing k p at);
  unborn = λ v h. empty_so_far v;
  last = λ q m busy. absurd (nothing q m busy);
}
  where
    missing : (k : ℕ) (p : PartView) → slice_get s.parts k ≡ Some p → ⊥
    missing k p at = some_none p (sym at ∙ ap (λ (ps : List PartView). slice_get ps k) parts)

    nowhere : (e : Event ObjectCall Reply) → Contains [] e → ⊥
    nowhere e c = let p = place_of [] e c in let h = p.1 in absurd (cc)

    nothing : (q m : ℕ) → IsBusy [] q m → ⊥
    nothing q m busy = not_both [] q 0 m refl busy

    empty_so_far : (v : Scalar) → IsPartSoFar all by [] (empty_part v)
    empty_so_far v = record {
      whole = λ q. refl;
      picked = none;
      numbered = record { within = λ e c. absurd (nowhere e c); apart = λ q i j k at also. absurd (cc) };
      begun = λ q i k at. absurd (cc);
      seats = λ q. record { idle = λ m h. refl; elsewhere = λ m h not. refl; busy = λ m h is. absurd (nothing q m h) };
    }

-- the events, one after the other

pub is_next : (all events : Events) (i : ℕ) (e : Event ObjectCall Reply) → events ≡ all → IsHistory all → slice_get events i ≡ Some e → IsNext all (take i events) e
is_next all events i e same whole at = record {
  whole = whole;
  rest = drop (suc i) events;
  parts = sym same ∙ sym (take-append-drop (suc i) events) ∙ ap (λ (es : Events). es ++ drop (suc i) events) (take_next events i e at)
      ∙ append_assoc (take i events) (e ∷ []) (drop (suc i) events);
}

-- all events
pub parts_are : (all : Events) (by : ℕ) (s : SplitView) → AreSplit all by all s → ArePartsOf all by s.parts
parts_are all by s h = record {
  values = h.values;
  each = λ k p at.
      let r = h.each k p at in
      record { whole = r.whole; part = r.picked; numbered = r.numbered };
}
