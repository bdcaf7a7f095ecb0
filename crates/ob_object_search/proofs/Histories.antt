-- What is found of a history's text, as what is answered.
use Rattle.std.proofs.Common.{◌≡◌, ◌≢◌, ◌<◌, ◌∙◌, List, [], ◌++◌, ℕ, Option, All, length, refl, ap, sym, subst, inl, inr, arith}
use Rattle.std.proofs.lemmas.List.{length-map}
use Rattle.ob_interface.specs.Call.{ObjectCall, Reply}
use Rattle.ob_mean.specs.declared.openings.OpenFault.{OpenFault}
use Rattle.ob_mean.specs.declared.openings.OpenFault.TheVariants as Open
use Rattle.ob_object_run.specs.LegalOrder.{CallEnds}
use Rattle.ob_object_search.proofs.Few.{no_more}
use Rattle.ob_object_search.specs.Found.{HasOrderHere, IsEnoughHere, IsFaultHere, IsNeededHere}
use Rattle.ob_object_search.specs.Searched.{HasEnough, HasNoneNeedless, HasOrder, budget_of}
use Rattle.ob_object_search.specs.SearchFaults.{CeasesAt, HasSearchFault, IsUndecided, TellsMemoryApart, of_open, of_reading}
use Rattle.ob_object_search.specs.declared.searching.SearchFault.{SearchFault}
use Rattle.ob_object_search.specs.declared.searching.SearchFault.TheVariants as Faults
use Rattle.ob_object_calls.proofs.Beginnings.{no_trap, one_state}
use Rattle.ob_object_calls.specs.Beginnings.{BeginsPlaced, IsBeginningFault, TrapsPlaced}
use Rattle.ob_meaning.specs.ByPositionStore.{Activation}
use Rattle.ob_text_reading.specs.HistoryLines.{HistoryTold, IsHistoryFault, IsHistoryText, IsOfOne}
use Rattle.ob_text_reading.specs.Names.{AreApart, AreBelow, named, named_all}
use Rattle.ob_text_reading.specs.declared.record_reading.RecordFault.{RecordFault}
use Rattle.ob_text_reading.specs.declared.record_reading.RecordFault.TheVariants as Reading
use Rattle.ob_typing.specs.Program.{Program}
use Rattle.wf_history.specs.History.{Event, own_events}
use Rattle.wf_history.specs.Legal.{IsLegal}
use Rattle.wf_history.specs.declared.event.CallId.{CallId}
use Rattle.wf_needed.specs.Needed.{IsOpen}
use Rattle.wf_order.proofs.Bounds.{enough_more}
use Rattle.wf_order.specs.Verdict.{HasLegal, HasMoreFront, enough}

-- a fault is told as want of memory or has a number

pub reading_apart : (e : RecordFault) → TellsMemoryApart (of_reading e)
reading_apart (Reading.Form line) = inr tt
reading_apart Reading.NoMemory = inl refl

pub open_apart : (e : OpenFault) → TellsMemoryApart (of_open e)
open_apart (Open.Trap k) = inr (λ same. cc)
open_apart Open.NoMemory = inl refl

-- and not as too many configurations

pub reading_decided : (e : RecordFault) → of_reading e ≢ Faults.TooMany
reading_decided (Reading.Form line) same = cc
reading_decided Reading.NoMemory same = cc

pub open_decided : (e : OpenFault) → of_open e ≢ Faults.TooMany
open_decided (Open.Trap k) same = cc
open_decided Open.NoMemory same = cc

module _ (program : Program) (text : List ℕ) (asked : Option ℕ) (most : ℕ) where
  abbrev Has : List CallId → Type 0
  Has order = HasOrder BeginsPlaced CallEnds program text asked order

  abbrev HasFault : SearchFault → Type 0
  HasFault fault = HasSearchFault BeginsPlaced TrapsPlaced CallEnds program text asked most fault

  -- a text that is no history

  pub reading_fails : (e : RecordFault) → IsHistoryFault program text e → HasFault (of_reading e)
  reading_fails (Reading.Form line) h = h
  reading_fails Reading.NoMemory h = tt

  pub reading_lawful : (e : RecordFault) → IsHistoryFault program text e → (order : List CallId) → Has order → IsUndecided (of_reading e)
  reading_lawful (Reading.Form line) h order r = absurd (h.none tt r.start.tells r.start.is_history)
  reading_lawful Reading.NoMemory h order r = inr refl

  -- one that is a history
  module _ (tells : HistoryTold) (is_history : IsHistoryText program text tells) (alone : (other : HistoryTold) → IsHistoryText program text other → other ≡ tells) where
    same_beginning : (other : HistoryTold) → IsHistoryText program text other → (state : Activation) → BeginsPlaced program other.carried state → BeginsPlaced program tells.carried state
    same_beginning other r state h = subst (λ (t : HistoryTold). BeginsPlaced program t.carried state) (alone other r) h

    -- no state to begin with

    pub open_fails : (e : OpenFault) → IsBeginningFault program tells.carried e → HasFault (of_open e)
    open_fails (Open.Trap k) h = record { tells = tells; is_history = is_history; traps = h }
    open_fails Open.NoMemory h = tt

    pub open_lawful : (e : OpenFault) → IsBeginningFault program tells.carried e → (order : List CallId) → Has order → IsUndecided (of_open e)
    open_lawful (Open.Trap k) h order r = absurd (no_trap program tells.carried r.start.opening k (same_beginning r.start.tells r.start.is_history r.start.opening r.start.begins) h)
    open_lawful Open.NoMemory h order r = inr refl

    -- a state to begin with
    module _ (opening : Activation) (begins : BeginsPlaced program tells.carried opening) (budget : ℕ) (is_budget : budget ≡ budget_of asked tells.budget) where
      abbrev Ends : ObjectCall → Activation → Activation → Reply → Type 0
      Ends = CallEnds program budget

      pub order_here : (order : List CallId) → (last : Activation) × IsLegal Ends opening tells.events order last → Has order
      order_here order l =
          record {
            start = record { tells = tells; is_history = is_history; opening = opening; begins = begins };
            last = l.0;
            legal = subst (λ (b : ℕ). IsLegal (CallEnds program b) opening tells.events order l.0) is_budget l.1;
          }

      legal_has : (order : List CallId) → Has order → (last : Activation) × IsLegal Ends opening tells.events order last
      legal_has order r = (
        r.last,
        subst (λ (s : Activation). IsLegal Ends s tells.events order r.last) (one_state program tells.carried r.start.opening opening (same_beginning r.start.tells r.start.is_history r.start.opening r.start.begins) begins)
            (subst (λ (b : ℕ). IsLegal (CallEnds program b) r.start.opening tells.events order r.last) (sym is_budget)
            (subst (λ (t : HistoryTold). IsLegal (CallEnds program (budget_of asked t.budget)) r.start.opening t.events order r.last) (alone r.start.tells r.start.is_history) r.legal)),
      )

      has_legal : (order : List CallId) → Has order → HasLegal Ends opening tells.events
      has_legal order r = let l = legal_has order r in (order, l.0, l.1)

      pub no_order : (id : CallId) → CeasesAt Ends opening tells.events id → HasFault (Faults.Illegal id)
      no_order id c =
          record {
            start = record { tells = tells; is_history = is_history; opening = opening; begins = begins };
            ceases = subst (λ (b : ℕ). CeasesAt (CallEnds program b) opening tells.events id) is_budget c;
          }

      pub no_order_lawful : (id : CallId) → CeasesAt Ends opening tells.events id → (order : List CallId) → Has order → IsUndecided (Faults.Illegal id)
      no_order_lawful id c order r = absurd (c.none (has_legal order r))

      pub too_many : (names : List ℕ) (numbered : List (Event ObjectCall Reply)) → named_all names numbered ≡ tells.events → AreApart names → AreBelow (length names) numbered →
          (processes : ℕ) × HasMoreFront Ends opening numbered processes most → HasFault Faults.TooMany
      too_many names numbered same apart below h =
          record {
            start = record { tells = tells; is_history = is_history; opening = opening; begins = begins };
            many = record {
              names = names;
              numbered = numbered;
              same = same;
              apart = apart;
              below = below;
              processes = h.0;
              more = subst (λ (b : ℕ). HasMoreFront (CallEnds program b) opening numbered h.0 most) is_budget h.1;
            };
          }

      -- what is found of the events by small numbers
      module _ (names : List ℕ) (numbered : List (Event ObjectCall Reply)) (same : tells.events ≡ named_all names numbered) where
        pub found_order : (order : List CallId) → HasOrderHere program budget opening numbered names order → Has order
        found_order order h = order_here order (h.0, subst (λ (l : List (Event ObjectCall Reply)). IsLegal Ends opening l order h.0) (sym same) h.1)

        pub found_needed : (order : List CallId) → IsNeededHere program budget opening numbered names order → HasNoneNeedless BeginsPlaced CallEnds program text asked order
        found_needed order needed first rest id parts opens has =
            let l = legal_has (first ++ rest) has in
            let never = subst (λ (t : HistoryTold). IsOpen t.events id) (alone opens.tells opens.is_history) opens.never_ends in
            needed first rest id l.0 parts
            (subst (λ (es : List (Event ObjectCall Reply)). IsOpen es id) same never)
            (subst (λ (es : List (Event ObjectCall Reply)). IsLegal Ends opening es (first ++ rest) l.0) same l.1)

        ceases : (id : CallId) → IsFaultHere program budget opening numbered names most (Faults.Illegal id) → CeasesAt Ends opening tells.events id
        ceases id h = subst (λ (l : List (Event ObjectCall Reply)). CeasesAt Ends opening l id) (sym same) h

        pub found_fault : AreApart names → AreBelow (length names) numbered → (e : SearchFault) → IsFaultHere program budget opening numbered names most e → HasFault e
        found_fault apart below (Faults.Text e) h = absurd h
        found_fault apart below (Faults.Form line) h = absurd h
        found_fault apart below (Faults.Open e) h = absurd h
        found_fault apart below (Faults.Illegal id) h = no_order id (ceases id h)
        found_fault apart below Faults.TooMany h = too_many names numbered (sym same) apart below h
        found_fault apart below Faults.NoMemory h = tt

        pub found_lawful : (e : SearchFault) → IsFaultHere program budget opening numbered names most e → (order : List CallId) → Has order → IsUndecided e
        found_lawful (Faults.Text e) h order r = absurd h
        found_lawful (Faults.Form line) h order r = absurd h
        found_lawful (Faults.Open e) h order r = absurd h
        found_lawful (Faults.Illegal id) h order r = no_order_lawful id (ceases id h) order r
        found_lawful Faults.TooMany h order r = inl refl
        found_lawful Faults.NoMemory h order r = inr refl

    -- enough configurations
    pub enough_here : (names : List ℕ) (numbered : List (Event ObjectCall Reply)) → tells.events ≡ named_all names numbered → AreApart names →
        ((process : ℕ) → process < length names → own_events process numbered ≡ [] → ⊥) → HasEnough program text most → IsEnoughHere numbered names most
    enough_here names numbered same apart begun h =
        let events : h.tells.events ≡ named_all names numbered = ap (λ (t : HistoryTold). t.events) (alone h.tells h.is_history) ∙ same in
        let few = no_more names numbered apart begun h.processes (subst (λ (l : List (Event ObjectCall Reply)). All (IsOfOne h.processes) l) events h.each) in
        let size : length h.tells.events ≡ length numbered =
        ap (λ (l : List (Event ObjectCall Reply)). length l) events ∙ length-map numbered (named names) in
        let le = enough_more (length names) (length h.processes) (length numbered) few in
        let many = h.many in
        let same_size : enough (length h.processes) (length h.tells.events) ≡ enough (length h.processes) (length numbered) = ap (λ (n : ℕ). enough (length h.processes) n) size in
        omega (arith, le, many, same_size)
