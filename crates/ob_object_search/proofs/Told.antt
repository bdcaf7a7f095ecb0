-- What is found of the parts of a history's text, as what is answered.
use Rattle.std.proofs.Common.{◌≡◌, ◌≢◌, ◌∙◌, List, ℕ, Option, Some, length, map, slice_get, refl, ap, sym, subst, inl, inr, arith, option_map}
use Rattle.std.proofs.lemmas.List.{length-map}
use Rattle.std.proofs.lemmas.Option.{same_Some, slice_get-map, slice_get_within}
use Rattle.ob_interface.specs.Call.{ObjectCall, Reply}
use Rattle.ob_interface.specs.declared.scalar.Scalar.{Scalar}
use Rattle.ob_mean.specs.declared.openings.OpenFault.{OpenFault}
use Rattle.ob_mean.specs.declared.openings.OpenFault.TheVariants as Open
use Rattle.ob_object_run.specs.LegalOrder.{CallEnds}
use Rattle.ob_object_search.specs.Found.{IsEnoughHere}
use Rattle.ob_object_search.specs.Searched.{HasBeginning, budget_of}
use Rattle.ob_object_search.proofs.Picked.{below_part, fewer_events, none_short, part_named, picked_once, picked_size, short_named, values_named, values_once}
use Rattle.ob_object_search.specs.NumberedParts.{AreEnoughHere, AreOrdersHere, HasOrderHere, IsFaultHere, IsFirstFault, IsPartFault, IsPartHere, IsShortHere, named_part}
use Rattle.ob_object_search.specs.Parted.{AreNeeded, AreOrders, HasNeededOrders, HasPartOrder, HasPartOrders, PartOrder}
use Rattle.ob_object_search.specs.Parted as Parted
use Rattle.ob_object_search.specs.PartedFaults.{HasManyParts, HasPartsFault, IsUndecided, PartCeases, TellsMemoryApart, of_open, of_reading}
use Rattle.ob_object_search.specs.declared.fault.PartsFault.{PartsFault}
use Rattle.ob_object_search.specs.declared.fault.PartsFault.TheVariants as Faults
use Rattle.ob_object_calls.proofs.Beginnings.{no_trap, one_state}
use Rattle.ob_object_calls.specs.Beginnings.{BeginsPlaced, IsBeginningFault, TrapsPlaced}
use Rattle.ob_meaning.specs.ByPositionStore.{Activation}
use Rattle.ob_text_reading.specs.HistoryLines.{HistoryTold, IsHistoryFault, IsHistoryText}
use Rattle.ob_text_reading.specs.Names.{AreApart, AreBelow, named_all, named_id}
use Rattle.ob_text_reading.specs.declared.record_reading.RecordFault.{RecordFault}
use Rattle.ob_text_reading.specs.declared.record_reading.RecordFault.TheVariants as Reading
use Rattle.ob_typing.specs.Program.{Program}
use Rattle.wf_history.specs.declared.event.CallId.{CallId}
use Rattle.wf_history.specs.Legal.{IsLegal}
use Rattle.wf_needed.specs.Needed.{NoneIsNeedless}
use Rattle.wf_lookup.proofs.Turns.{slice_get_some}
use Rattle.wf_parts.specs.Numbering.{ArePartsOf, PartView, value_of, whole_event}
use Rattle.wf_parts.specs.Parts.{AreValues, Events, IsPart, IsShort}

-- a fault is told as want of memory or has a number

pub reading_apart : (e : RecordFault) → TellsMemoryApart (of_reading e)
reading_apart (Reading.Form line) = inr tt
reading_apart Reading.NoMemory = inl refl

pub open_apart : (e : OpenFault) → TellsMemoryApart (of_open e)
open_apart (Open.Trap k) = inr (λ same. cc)
open_apart Open.NoMemory = inl refl

pub short_apart : (events : Events) (names : List ℕ) (by : ℕ) (e : PartsFault) → IsShortHere events names by e → TellsMemoryApart e
short_apart events names by (Faults.Text e) h = absurd h
short_apart events names by (Faults.Form line) h = absurd h
short_apart events names by (Faults.Open e) h = absurd h
short_apart events names by (Faults.Short id) h = inr tt
short_apart events names by (Faults.Illegal id value) h = absurd h
short_apart events names by Faults.TooMany h = absurd h
short_apart events names by Faults.NoMemory h = inl refl

pub part_apart : (program : Program) (budget : ℕ) (opening : Activation) (names : List ℕ) (most : ℕ) (p : PartView) (e : PartsFault) → IsPartFault program budget opening names most p e → TellsMemoryApart e
part_apart program budget opening names most p (Faults.Text e) h = absurd h
part_apart program budget opening names most p (Faults.Form line) h = absurd h
part_apart program budget opening names most p (Faults.Open e) h = absurd h
part_apart program budget opening names most p (Faults.Short id) h = absurd h
part_apart program budget opening names most p (Faults.Illegal id value) h = inr tt
part_apart program budget opening names most p Faults.TooMany h = inr tt
part_apart program budget opening names most p Faults.NoMemory h = inl refl

pub found_apart : (program : Program) (budget : ℕ) (opening : Activation) (names : List ℕ) (most : ℕ) (parts : List PartView) (e : PartsFault) → IsFaultHere program budget opening names most parts e →
    TellsMemoryApart e
found_apart program budget opening names most parts e (inl same) = inl same
found_apart program budget opening names most parts e (inr f) = part_apart program budget opening names most f.part e f.fault

-- and not as too many configurations

pub reading_decided : (e : RecordFault) → of_reading e ≢ Faults.TooMany
reading_decided (Reading.Form line) same = cc
reading_decided Reading.NoMemory same = cc

pub open_decided : (e : OpenFault) → of_open e ≢ Faults.TooMany
open_decided (Open.Trap k) same = cc
open_decided Open.NoMemory same = cc

pub short_decided : (events : Events) (names : List ℕ) (by : ℕ) (e : PartsFault) → IsShortHere events names by e → e ≢ Faults.TooMany
short_decided events names by (Faults.Text e) h same = absurd h
short_decided events names by (Faults.Form line) h same = absurd h
short_decided events names by (Faults.Open e) h same = absurd h
short_decided events names by (Faults.Short id) h same = cc
short_decided events names by (Faults.Illegal id value) h same = absurd h
short_decided events names by Faults.TooMany h same = absurd h
short_decided events names by Faults.NoMemory h same = cc

-- values of lists with the same ones
at_value : {A : Type 0} (f : A → Scalar) (xs : List A) (k : ℕ) (x : A) → slice_get xs k ≡ Some x → slice_get (map f xs) k ≡ Some (f x)
at_value f xs k x h = slice_get-map f xs k ∙ ap (option_map f) h

value_at : {A : Type 0} (f : A → Scalar) (xs : List A) (k : ℕ) (v : Scalar) → slice_get (map f xs) k ≡ Some v → (x : A) × (slice_get xs k ≡ Some x) × (f x ≡ v)
value_at f xs k v h =
    let within = slice_get_within (map f xs) k v h in
    let size = length-map xs f in
    let x = slice_get_some xs k (omega (arith, within, size)) in
    (x.0, x.1, same_Some (f x.0) v (sym (at_value f xs k x.0 x.1) ∙ h))

module _ (program : Program) (text : List ℕ) (asked : Option ℕ) (by most : ℕ) where
  abbrev Has : List PartOrder → Type 0
  Has parts = HasPartOrders BeginsPlaced CallEnds program text asked by parts

  abbrev HasFault : PartsFault → Type 0
  HasFault fault = HasPartsFault BeginsPlaced TrapsPlaced CallEnds program text asked by most fault

  -- a text that is no history

  pub reading_fails : (e : RecordFault) → IsHistoryFault program text e → HasFault (of_reading e)
  reading_fails (Reading.Form line) h = h
  reading_fails Reading.NoMemory h = tt

  pub reading_lawful : (e : RecordFault) → IsHistoryFault program text e → (parts : List PartOrder) → Has parts → IsUndecided (of_reading e)
  reading_lawful (Reading.Form line) h parts r = absurd (h.none tt r.start.tells r.start.is_history)
  reading_lawful Reading.NoMemory h parts r = inr refl

  -- one that is a history
  module _ (tells : HistoryTold) (is_history : IsHistoryText program text tells) (alone : (other : HistoryTold) → IsHistoryText program text other → other ≡ tells) where
    same_beginning : (other : HistoryTold) → IsHistoryText program text other → (state : Activation) → BeginsPlaced program other.carried state → BeginsPlaced program tells.carried state
    same_beginning other r state h = subst (λ (t : HistoryTold). BeginsPlaced program t.carried state) (alone other r) h

    -- no state to begin with

    pub open_fails : (e : OpenFault) → IsBeginningFault program tells.carried e → HasFault (of_open e)
    open_fails (Open.Trap k) h = record { tells = tells; is_history = is_history; traps = h }
    open_fails Open.NoMemory h = tt

    pub open_lawful : (e : OpenFault) → IsBeginningFault program tells.carried e → (parts : List PartOrder) → Has parts → IsUndecided (of_open e)
    open_lawful (Open.Trap k) h parts r = absurd (no_trap program tells.carried r.start.opening k (same_beginning r.start.tells r.start.is_history r.start.opening r.start.begins) h)
    open_lawful Open.NoMemory h parts r = inr refl

    -- a state to begin with
    module _ (opening : Activation) (begins : BeginsPlaced program tells.carried opening) where
      abbrev start_here : HasBeginning BeginsPlaced program text
      start_here = record { tells = tells; is_history = is_history; opening = opening; begins = begins }

      -- a call that has no such argument
      module _ (names : List ℕ) (numbered : Events) (same : tells.events ≡ named_all names numbered) where
        short_here : (own : CallId) → IsShort by numbered own → IsShort by tells.events (named_id names own)
        short_here own h = subst (λ (es : Events). IsShort by es (named_id names own)) (sym same) (short_named names by numbered own h)

        pub short_fails : (e : PartsFault) → IsShortHere numbered names by e → HasFault e
        short_fails (Faults.Text e) h = absurd h
        short_fails (Faults.Form line) h = absurd h
        short_fails (Faults.Open e) h = absurd h
        short_fails (Faults.Short id) h = record { start = start_here; short = subst (λ (x : CallId). IsShort by tells.events x) (sym h.2) (short_here h.0 h.1) }
        short_fails (Faults.Illegal id value) h = absurd h
        short_fails Faults.TooMany h = absurd h
        short_fails Faults.NoMemory h = tt

        pub short_lawful : (e : PartsFault) → IsShortHere numbered names by e → (parts : List PartOrder) → Has parts → IsUndecided e
        short_lawful (Faults.Text e) h parts r = absurd h
        short_lawful (Faults.Form line) h parts r = absurd h
        short_lawful (Faults.Open e) h parts r = absurd h
        short_lawful (Faults.Short id) h parts r =
            absurd (none_short by tells.events (map Parted.value_of parts) (named_id names h.0) (short_here h.0 h.1)
            (subst (λ (t : HistoryTold). AreValues by t.events (map Parted.value_of parts)) (alone r.start.tells r.start.is_history) r.orders.values))
        short_lawful (Faults.Illegal id value) h parts r = absurd h
        short_lawful Faults.TooMany h parts r = absurd h
        short_lawful Faults.NoMemory h parts r = inr refl

      module _ (budget : ℕ) (is_budget : budget ≡ budget_of asked tells.budget) where
        abbrev Ends : ObjectCall → Activation → Activation → Reply → Type 0
        Ends = CallEnds program budget

        orders_here : (parts : List PartOrder) → Has parts → AreOrders Ends opening tells.events by parts
        orders_here parts r =
            subst (λ (s : Activation). AreOrders Ends s tells.events by parts)
            (one_state program tells.carried r.start.opening opening (same_beginning r.start.tells r.start.is_history r.start.opening r.start.begins) begins)
            (subst (λ (b : ℕ). AreOrders (CallEnds program b) r.start.opening tells.events by parts) (sym is_budget)
            (subst (λ (t : HistoryTold). AreOrders (CallEnds program (budget_of asked t.budget)) r.start.opening t.events by parts) (alone r.start.tells r.start.is_history) r.orders))

        -- what is found of the parts by small numbers
        module _ (names : List ℕ) (apart : AreApart names) (numbered : Events) (below : AreBelow (length names) numbered) (same : tells.events ≡ named_all names numbered)
            (parts : List PartView) (are : ArePartsOf numbered by parts) where
          pub parts_here : (k : ℕ) (p : PartView) → slice_get parts k ≡ Some p → IsPartHere names p
          parts_here k p at =
              let h = are.each k p at in
              record { numbered = h.numbered; below = below_part numbered by (length names) p below h.part }

          part_here : (k : ℕ) (p : PartView) → slice_get parts k ≡ Some p → IsPart tells.events by p.value (named_part names p)
          part_here k p at =
              subst (λ (es : Events). IsPart es by p.value (named_part names p)) (sym same)
              (part_named names by numbered apart below p.value _ (are.each k p at).part)

          values_here : AreValues by tells.events (map value_of parts)
          values_here = subst (λ (es : Events). AreValues by es (map value_of parts)) (sym same) (values_named names by are.values)

          -- the part at the place of a value
          part_of : (values : List Scalar) → values ≡ map value_of parts → (k : ℕ) (v : Scalar) → slice_get values k ≡ Some v → (p : PartView) × (slice_get parts k ≡ Some p) × (p.value ≡ v)
          part_of values is k v at = value_at value_of parts k v (ap (λ (vs : List Scalar). slice_get vs k) (sym is) ∙ at)

          has_order : (p : PartView) (k : ℕ) → slice_get parts k ≡ Some p → (v : Scalar) → p.value ≡ v → (order : List CallId) → HasOrderHere program budget opening names p order →
              HasPartOrder Ends opening tells.events by v order
          has_order p k at v is order h =
              record { part = named_part names p; is_part = subst (λ (x : Scalar). IsPart tells.events by x (named_part names p)) is (part_here k p at); last = h.0; legal = h.1 }

          pub found_orders : (found : List PartOrder) → AreOrdersHere program budget opening names parts found → Has found
          found_orders found h =
              record {
                start = start_here;
                orders = subst (λ (b : ℕ). AreOrders (CallEnds program b) opening tells.events by found) is_budget (record {
                  values = subst (λ (vs : List Scalar). AreValues by tells.events vs) (sym h.values) values_here;
                  each = λ k o at.
                      let p = part_of (map Parted.value_of found) h.values k o.value (at_value Parted.value_of found k o at) in
                      has_order p.0 k p.1 o.value p.2 o.order (h.each k p.0 o p.1 at).0;
                });
              }

          needed_of : (p : PartView) (k : ℕ) → slice_get parts k ≡ Some p → (v : Scalar) → p.value ≡ v → (order : List CallId) (part : Events) → IsPart tells.events by v part →
              NoneIsNeedless Ends opening (named_part names p) order → NoneIsNeedless Ends opening part order
          needed_of p k at v is order part own needed =
              subst (λ (es : Events). NoneIsNeedless Ends opening es order)
              (picked_once tells.events by v (subst (λ (x : Scalar). IsPart tells.events by x (named_part names p)) is (part_here k p at)) own) needed

          pub found_needed : (found : List PartOrder) → AreOrdersHere program budget opening names parts found → HasNeededOrders BeginsPlaced CallEnds program text asked by found
          found_needed found h =
              record {
                start = start_here;
                needed = subst (λ (b : ℕ). AreNeeded (CallEnds program b) opening tells.events by found) is_budget (λ k o part at own.
                    let p = part_of (map Parted.value_of found) h.values k o.value (at_value Parted.value_of found k o at) in
                    needed_of p.0 k p.1 o.value p.2 o.order part own (h.each k p.0 o p.1 at).1);
              }

          -- a part has no more events than the whole
          pub found_enough : IsEnoughHere numbered names most → AreEnoughHere parts names most
          found_enough enough k p at =
              let less = picked_size numbered by p.value (are.each k p at).part in
              let size = length-map p.events (whole_event p.rows) in
              let fewer = fewer_events (length names) (length p.events) (length numbered) (omega (arith, less, size)) in
              omega (arith, fewer, enough)

          ceases_here : (id : CallId) (value : Scalar) → IsFirstFault program budget opening names most parts (Faults.Illegal id value) → PartCeases Ends opening tells.events by id value
          ceases_here id value f =
              record {
                values = map value_of parts;
                are = values_here;
                place = f.place;
                here = at_value value_of parts f.place f.part f.at ∙ ap (λ (v : Scalar). Some v) (sym f.fault.0);
                earlier = λ k v lt at.
                    let p = part_of (map value_of parts) refl k v at in
                    let o = f.earlier k p.0 lt p.1 in
                    (o.0, has_order p.0 k p.1 v p.2 o.0 o.1);
                part = named_part names f.part;
                is_part = subst (λ (v : Scalar). IsPart tells.events by v (named_part names f.part)) (sym f.fault.0) (part_here f.place f.part f.at);
                ceases = f.fault.1;
              }

          many_here : IsFirstFault program budget opening names most parts Faults.TooMany → HasManyParts Ends opening tells.events by most
          many_here f =
              record {
                value = f.part.value;
                part = named_part names f.part;
                is_part = part_here f.place f.part f.at;
                names = names;
                rows = f.part.rows;
                numbered = f.part.events;
                same = refl;
                apart = apart;
                rows_apart = (are.each f.place f.part f.at).numbered;
                processes = f.fault.0;
                more = f.fault.1;
              }

          pub found_fault : (e : PartsFault) → IsFaultHere program budget opening names most parts e → HasFault e
          found_fault (Faults.Text e) (inl is) = absurd (cc)
          found_fault (Faults.Text e) (inr f) = absurd f.fault
          found_fault (Faults.Form line) (inl is) = absurd (cc)
          found_fault (Faults.Form line) (inr f) = absurd f.fault
          found_fault (Faults.Open e) (inl is) = absurd (cc)
          found_fault (Faults.Open e) (inr f) = absurd f.fault
          found_fault (Faults.Short id) (inl is) = absurd (cc)
          found_fault (Faults.Short id) (inr f) = absurd f.fault
          found_fault (Faults.Illegal id value) (inl is) = absurd (cc)
          found_fault (Faults.Illegal id value) (inr f) =
              record { start = start_here; ceases = subst (λ (b : ℕ). PartCeases (CallEnds program b) opening tells.events by id value) is_budget (ceases_here id value f) }
          found_fault Faults.TooMany (inl is) = absurd (cc)
          found_fault Faults.TooMany (inr f) =
              record { start = start_here; many = subst (λ (b : ℕ). HasManyParts (CallEnds program b) opening tells.events by most) is_budget (many_here f) }
          found_fault Faults.NoMemory h = tt

          -- a part that has none, where each has one
          no_order : (id : CallId) (value : Scalar) → IsFirstFault program budget opening names most parts (Faults.Illegal id value) → (found : List PartOrder) → Has found → ⊥
          no_order id value f found r =
              let o = orders_here found r in
              let same_values : map value_of parts ≡ map Parted.value_of found = values_once by values_here o.values in
              let x =
              value_at Parted.value_of found f.place f.part.value
              (ap (λ (vs : List Scalar). slice_get vs f.place) (sym same_values) ∙ at_value value_of parts f.place f.part f.at) in
              let h = o.each f.place x.0 x.1 in
              let one : h.part ≡ named_part names f.part =
              picked_once tells.events by f.part.value (subst (λ (v : Scalar). IsPart tells.events by v h.part) x.2 h.is_part) (part_here f.place f.part f.at) in
              f.fault.1.none (x.0.order, h.last, subst (λ (es : Events). IsLegal Ends opening es x.0.order h.last) one h.legal)

          pub found_lawful : (e : PartsFault) → IsFaultHere program budget opening names most parts e → (found : List PartOrder) → Has found → IsUndecided e
          found_lawful (Faults.Text e) (inl is) found r = inr is
          found_lawful (Faults.Text e) (inr f) found r = absurd f.fault
          found_lawful (Faults.Form line) (inl is) found r = inr is
          found_lawful (Faults.Form line) (inr f) found r = absurd f.fault
          found_lawful (Faults.Open e) (inl is) found r = inr is
          found_lawful (Faults.Open e) (inr f) found r = absurd f.fault
          found_lawful (Faults.Short id) (inl is) found r = inr is
          found_lawful (Faults.Short id) (inr f) found r = absurd f.fault
          found_lawful (Faults.Illegal id value) (inl is) found r = inr is
          found_lawful (Faults.Illegal id value) (inr f) found r = absurd (no_order id value f found r)
          found_lawful Faults.TooMany h found r = inl refl
          found_lawful Faults.NoMemory h found r = inr refl
