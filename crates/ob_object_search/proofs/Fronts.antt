-- The first events of a history, by the names of its processes, and what a fault of them says of the whole history.
use Rattle.std.proofs.Common.{◌≡◌, inl, inr, ℕ, ◌+◌, ◌≤◌, List, length, take, sym, subst, arith}
use Rattle.std.proofs.lemmas.Bool.{cases_lt}
use Rattle.std.proofs.lemmas.List.{length-take, take-map, take-take, take_all}
use Rattle.ob_interface.specs.Call.{ObjectCall, Reply}
use Rattle.ob_object_run.specs.LegalOrder.{CallEnds}
use Rattle.ob_object_search.proofs.Renamed.{has_named, has_unnamed}
use Rattle.ob_object_search.specs.Found.{IsFaultHere}
use Rattle.ob_object_search.specs.SearchFaults.{CeasesAt}
use Rattle.ob_object_search.specs.declared.searching.SearchFault.{SearchFault}
use Rattle.ob_object_search.specs.declared.searching.SearchFault.TheVariants as Faults
use Rattle.ob_meaning.specs.ByPositionStore.{Activation}
use Rattle.ob_text_reading.specs.Names.{AreApart, AreBelow, IsBelow, named, named_all}
use Rattle.ob_typing.specs.Program.{Program}
use Rattle.wf_history.proofs.Positions.{contains_at, place_of, place_take}
use Rattle.wf_history.specs.History.{Event, Begin, Applied, End, IsHistory}
use Rattle.wf_history.specs.declared.event.CallId.{CallId}
use Rattle.wf_order.proofs.Beginnings.{legal_taken}
use Rattle.wf_lookup.specs.Beginnings.{IsOfProcesses}
use Rattle.wf_order.specs.Verdict.{HasLegal, HasMore, HasMoreFront}

-- the first events of first ones

module _ {A : Type 0} (xs : List A) where
  front_within : (n m : ℕ) → n ≤ m → take n (take m xs) ≡ take n xs
  front_within n m le = take-take n m xs le

  front_whole : (n m : ℕ) → m ≤ n → take n (take m xs) ≡ take m xs
  front_whole n m le = let size = length-take m xs in take_all n (take m xs) (omega (arith, le, size))

  pub front_of_front : (n m : ℕ) → (k : ℕ) × (take k xs ≡ take n (take m xs))
  front_of_front n m =
      elim (cases_lt n m) [
        | inl lt ↦ (n, sym (front_within n m (omega (arith, lt))))
        | inr le ↦ (m, sym (front_whole n m le))
      ]

of_below : (n : ℕ) (e : Event ObjectCall Reply) → IsBelow n e → IsOfProcesses n e
of_below n (Begin id call) h = h
of_below n (Applied ids) h = tt
of_below n (End id reply) h = h

module _ (names : List ℕ) (history : List (Event ObjectCall Reply)) where
  pub named_front : (place : ℕ) → take place (named_all names history) ≡ named_all names (take place history)
  named_front place = take-map (named names) place history

  pub below_front : AreBelow (length names) history → (place : ℕ) → AreBelow (length names) (take place history)
  below_front below place event h =
      let k = place_of (take place history) event h in
      let at = place_take place history k.0 event k.1 in
      below event (contains_at history k.0 event at.0)

module _ (program : Program) (budget : ℕ) (opening : Activation) (names : List ℕ) (apart : AreApart names) (history : List (Event ObjectCall Reply)) (below : AreBelow (length names) history)
    (whole : IsHistory history) (place most : ℕ) where
  abbrev Ends : ObjectCall → Activation → Activation → Reply → Type 0
  Ends = CallEnds program budget

  abbrev all : List (Event ObjectCall Reply)
  all = named_all names history

  abbrev front : List (Event ObjectCall Reply)
  front = take place history

  -- where all events have a legal order, so have the first ones
  legal_front : HasLegal Ends opening all → HasLegal Ends opening (take place all)
  legal_front h =
      subst (λ (es : List (Event ObjectCall Reply)). HasLegal Ends opening es) (sym (named_front names history place))
      (has_named names apart front (below_front names history below place) Ends opening
      (legal_taken Ends history whole (length names) (λ e in_it. of_below (length names) e (below e in_it)) opening place (has_unnamed names apart history below Ends opening h)))

  ceases_front : (id : CallId) → CeasesAt Ends opening (take place all) id → CeasesAt Ends opening all id
  ceases_front id c =
      let at = place_take place all c.place (End c.last.id c.last.reply) c.last.end in
      let less = at.1 in
      record {
        place = c.place;
        last = record {
          id = c.last.id;
          reply = c.last.reply;
          end = at.0;
          legal = subst (λ (es : List (Event ObjectCall Reply)). HasLegal Ends opening es) (front_within all c.place place (omega (arith, less))) c.last.legal;
          none = λ h. c.last.none (subst (λ (es : List (Event ObjectCall Reply)). HasLegal Ends opening es) (sym (front_within all (c.place + 1) place (omega (arith, less)))) h);
        };
        is = c.is;
        none = λ h. c.none (legal_front h);
      }

  many_front : (processes : ℕ) → HasMoreFront Ends opening front processes most → HasMoreFront Ends opening history processes most
  many_front processes h =
      let k = front_of_front history h.count place in
      record {
        count = k.0;
        more = subst (λ (es : List (Event ObjectCall Reply)). HasMore Ends opening es processes most) (sym k.1) h.more;
      }

  pub fault_front : (e : SearchFault) → IsFaultHere program budget opening front names most e → IsFaultHere program budget opening history names most e
  fault_front (Faults.Text e) h = h
  fault_front (Faults.Form line) h = h
  fault_front (Faults.Open e) h = h
  fault_front (Faults.Illegal id) h =
      ceases_front id (subst (λ (es : List (Event ObjectCall Reply)). CeasesAt Ends opening es id) (sym (named_front names history place)) h)
  fault_front Faults.TooMany h = (h.0, many_front h.0 h.1)
  fault_front Faults.NoMemory h = h
