-- Parts of histories by position and by name: they have the same legal orders, and cease at the same call to have one; and what is found of
-- a module's text and of a history, as what is answered of both texts.
use Rattle.std.proofs.Common.{◌≡◌, ◌≢◌, ℕ, List, ◌++◌, Option, Result, Ok, Err, IfErr, ◌⊎◌, inl, inr, refl, subst}
use Rattle.ob_meaning.specs.Resolved.{IsResolved}
use Rattle.ob_meaning.specs.Same.{SameState}
use Rattle.ob_check.specs.CheckedText.{IsNumberedText, IsTextFault, TellsTextMemoryApart}
use Rattle.ob_check.specs.declared.module_text.TextFault.{TextFault}
use Rattle.ob_check.specs.declared.module_text.TextFault.TheVariants as Text
use Rattle.ob_code_correct.proofs.Named.{names_simulate, positions_simulate}
use Rattle.ob_code_correct.specs.Carried.{BegunFit}
use Rattle.ob_code_correct.specs.Compiled.{Fits}
use Rattle.ob_code_correct.specs.Named.{CallMeans}
use Rattle.ob_interface.specs.declared.scalar.Scalar.{Scalar}
use Rattle.ob_mean.specs.declared.openings.OpenFault.TheVariants as Open
use Rattle.ob_meaning.specs.ByNameObject.{State}
use Rattle.ob_object_run.specs.LegalOrder.{CallEnds}
use Rattle.ob_object_search.proofs.Crossing.{IsNamed, IsPlaced, ceases_named}
use Rattle.ob_object_search.proofs.Fitting.{calls_fit, history_opened}
use Rattle.ob_object_search.specs.Searched.{HasEnough, IsEnough, budget_of}
use Rattle.ob_object_search.proofs.Picked.{picked_at}
use Rattle.ob_object_search.specs.Parted.{AreLegalOrders, AreNeeded, AreNeededOrders, AreOrders, HasNeededOrders, HasPartOrder, HasPartOrders, PartOrder}
use Rattle.ob_object_search.specs.PartedFaults.{HasPartsFault, IsFaultOfParts, IsPartsFault, IsUndecided, PartCeases, TellsMemoryApart, of_text}
use Rattle.ob_object_search.specs.declared.fault.PartsFault.{PartsFault}
use Rattle.ob_object_search.specs.declared.fault.PartsFault.TheVariants as Faults
use Rattle.ob_object_calls.proofs.Beginnings.{beginning_named, beginning_placed, trap_named}
use Rattle.ob_object_calls.proofs.Openings.{module_resolved}
use Rattle.ob_object_calls.proofs.Simulated.{legal_there}
use Rattle.ob_object_calls.specs.Beginnings.{BeginsNamed, BeginsPlaced, TrapsNamed, TrapsPlaced}
use Rattle.ob_meaning.specs.ByPositionStore.{Activation}
use Rattle.ob_typing.specs.ModuleText.{IsModule}
use Rattle.ob_typing.specs.Program.{Program}
use Rattle.wf_history.proofs.Positions.{contains_at, place_of}
use Rattle.wf_history.specs.declared.event.CallId.{CallId}
use Rattle.wf_history.specs.History.{Begin}
use Rattle.wf_parts.specs.Parts.{Events, IsPart}

-- the calls of a part fit, where all calls do
part_fits : (program : Program) (events part : Events) (by : ℕ) (v : Scalar) → IsPart events by v part → BegunFit (Fits program) events → BegunFit (Fits program) part
part_fits program events part by v is fit id call begun =
    let k = place_of part (Begin id call) begun in
    let j = picked_at events by v is k.0 (Begin id call) k.1 in
    fit id call (contains_at events j.0 (Begin id call) j.1)

module _ (program : Program) (good : IsResolved program) (budget : ℕ) (activation : Activation) (state : State) (is : SameState program state activation)
    (events : Events) (fit : BegunFit (Fits program) events) (by : ℕ) where
  order_named : (v : Scalar) (order : List CallId) → HasPartOrder (CallEnds program budget) activation events by v order → HasPartOrder (CallMeans program budget) state events by v order
  order_named v order h =
      let l =
      legal_there (Fits program) (IsNamed program good) (CallEnds program budget) (CallMeans program budget) (names_simulate program budget good) h.part order
      (part_fits program events h.part by v h.is_part fit) activation state is h.last h.legal in
      record { part = h.part; is_part = h.is_part; last = l.end; legal = l.legal }

  order_placed : (v : Scalar) (order : List CallId) → HasPartOrder (CallMeans program budget) state events by v order → HasPartOrder (CallEnds program budget) activation events by v order
  order_placed v order h =
      let l =
      legal_there (Fits program) (IsPlaced program good) (CallMeans program budget) (CallEnds program budget) (positions_simulate program budget good) h.part order
      (part_fits program events h.part by v h.is_part fit) state activation is h.last h.legal in
      record { part = h.part; is_part = h.is_part; last = l.end; legal = l.legal }

  all_needed : (parts : List PartOrder) → AreNeeded (CallEnds program budget) activation events by parts → AreNeeded (CallMeans program budget) state events by parts
  all_needed parts needed k p part at own first rest id last split never legal =
      let l =
      legal_there (Fits program) (IsPlaced program good) (CallMeans program budget) (CallEnds program budget) (positions_simulate program budget good) part (first ++ rest)
      (part_fits program events part by p.value own fit) state activation is last legal in
      needed k p part at own first rest id l.end split never l.legal

  all_named : (parts : List PartOrder) → AreOrders (CallEnds program budget) activation events by parts → AreOrders (CallMeans program budget) state events by parts
  all_named parts o = record { values = o.values; each = λ k p at. order_named p.value p.order (o.each k p at) }

  all_placed : (parts : List PartOrder) → AreOrders (CallMeans program budget) state events by parts → AreOrders (CallEnds program budget) activation events by parts
  all_placed parts o = record { values = o.values; each = λ k p at. order_placed p.value p.order (o.each k p at) }

  part_ceases : (id : CallId) (v : Scalar) → PartCeases (CallEnds program budget) activation events by id v → PartCeases (CallMeans program budget) state events by id v
  part_ceases id v c =
      record {
        values = c.values;
        are = c.are;
        place = c.place;
        here = c.here;
        earlier = λ k w lt at.
            let o = c.earlier k w lt at in
            (o.0, order_named w o.0 o.1);
        part = c.part;
        is_part = c.is_part;
        ceases = ceases_named program good budget activation state is c.part (part_fits program events c.part by v c.is_part fit) id c.ceases;
      }

module _ (program : Program) (good : IsResolved program) (text : List ℕ) (asked : Option ℕ) (by : ℕ) where
  pub orders_named : (parts : List PartOrder) → HasPartOrders BeginsPlaced CallEnds program text asked by parts → HasPartOrders BeginsNamed CallMeans program text asked by parts
  orders_named parts r =
      let t = r.start.tells in
      let o = beginning_named program good t.carried (history_opened program text t r.start.is_history) r.start.opening r.start.begins in
      record {
        start = record { tells = t; is_history = r.start.is_history; opening = o.0; begins = o.1 };
        orders = all_named program good (budget_of asked t.budget) r.start.opening o.0 o.2 t.events (calls_fit program text t r.start.is_history) by parts r.orders;
      }

  pub needed_named : (parts : List PartOrder) → HasNeededOrders BeginsPlaced CallEnds program text asked by parts → HasNeededOrders BeginsNamed CallMeans program text asked by parts
  needed_named parts r =
      let t = r.start.tells in
      let o = beginning_named program good t.carried (history_opened program text t r.start.is_history) r.start.opening r.start.begins in
      record {
        start = record { tells = t; is_history = r.start.is_history; opening = o.0; begins = o.1 };
        needed = all_needed program good (budget_of asked t.budget) r.start.opening o.0 o.2 t.events (calls_fit program text t r.start.is_history) by parts r.needed;
      }

  pub orders_placed : (parts : List PartOrder) → HasPartOrders BeginsNamed CallMeans program text asked by parts → HasPartOrders BeginsPlaced CallEnds program text asked by parts
  orders_placed parts r =
      let t = r.start.tells in
      let o = beginning_placed program good t.carried r.start.opening r.start.begins in
      record {
        start = record { tells = t; is_history = r.start.is_history; opening = o.0; begins = o.1 };
        orders = all_placed program good (budget_of asked t.budget) o.0 r.start.opening o.2 t.events (calls_fit program text t r.start.is_history) by parts r.orders;
      }

  pub fault_named : (most : ℕ) (e : PartsFault) → HasPartsFault BeginsPlaced TrapsPlaced CallEnds program text asked by most e → HasPartsFault BeginsNamed TrapsNamed CallMeans program text asked by most e
  fault_named most (Faults.Text e) h = h
  fault_named most (Faults.Form line) h = h
  fault_named most (Faults.Open (Open.Trap k)) h = record { tells = h.tells; is_history = h.is_history; traps = trap_named program good h.tells.carried k h.traps }
  fault_named most (Faults.Open Open.NoMemory) h = h
  fault_named most (Faults.Short id) h =
      let t = h.start.tells in
      let o = beginning_named program good t.carried (history_opened program text t h.start.is_history) h.start.opening h.start.begins in
      record { start = record { tells = t; is_history = h.start.is_history; opening = o.0; begins = o.1 }; short = h.short }
  fault_named most (Faults.Illegal id v) h =
      let t = h.start.tells in
      let o = beginning_named program good t.carried (history_opened program text t h.start.is_history) h.start.opening h.start.begins in
      record {
        start = record { tells = t; is_history = h.start.is_history; opening = o.0; begins = o.1 };
        ceases = part_ceases program good (budget_of asked t.budget) h.start.opening o.0 o.2 t.events (calls_fit program text t h.start.is_history) by id v h.ceases;
      }
  fault_named most Faults.TooMany h = record { start = h.start; many = h.many }
  fault_named most Faults.NoMemory h = tt

-- a fault of a text is told as want of memory or has a number
told : (e : TextFault) → TellsTextMemoryApart e → (of_text e ≡ Faults.NoMemory) ⊎ IsNumberedText e
told (Text.Scan e) apart = inr (refl, apart)
told (Text.Parse e) apart = inr (refl, apart)
told (Text.Check e) apart = inr (refl, apart)
told Text.NoMemory apart = inl refl

pub apart_told : (e : TextFault) → TellsTextMemoryApart e → TellsMemoryApart (of_text e)
apart_told (Text.Scan e) apart = inr (refl, apart)
apart_told (Text.Parse e) apart = inr (refl, apart)
apart_told (Text.Check e) apart = inr (refl, apart)
apart_told Text.NoMemory apart = inl refl

pub text_decided : (e : TextFault) → of_text e ≢ Faults.TooMany
text_decided (Text.Scan e) same = cc
text_decided (Text.Parse e) same = cc
text_decided (Text.Check e) same = cc
text_decided Text.NoMemory same = cc

-- where legal orders leave no more than two answers, with another one there are none
pub none_by : {X A : Type 0} {Has : A → Type 0} (r : Result X PartsFault) → ((a : A) → Has a → IfErr r IsUndecided) → IfErr r (λ e. ¬ IsUndecided e → (a : A) → ¬ Has a)
none_by (Ok x) lawful = tt
none_by (Err e) lawful = λ decided a has. decided (lawful a has)

module _ (module_text history_text : List ℕ) (asked : Option ℕ) (by most : ℕ) where
  pub text_told : (e : TextFault) → IsTextFault module_text e → IsPartsFault module_text history_text asked by most (of_text e)
  text_told (Text.Scan e) h = h
  text_told (Text.Parse e) h = h
  text_told (Text.Check e) h = h
  text_told Text.NoMemory h = tt

  -- of a module's text only want of memory is told
  pub text_lawful : (e : TextFault) → (IsNumberedText e → (program : Program) → IsModule module_text program → ⊥) → TellsTextMemoryApart e →
      (parts : List PartOrder) → AreLegalOrders module_text history_text asked by parts → IsUndecided (of_text e)
  text_lawful e none apart parts r = elim (told e apart) [ inl same ↦ inr same | inr numbered ↦ absurd (none numbered r.program r.is_module) ]

  module _ (program : Program) (is_module : IsModule module_text program) (alone : (other : Program) → IsModule module_text other → other ≡ program) where
    pub orders_by : (parts : List PartOrder) → HasPartOrders BeginsPlaced CallEnds program history_text asked by parts → AreLegalOrders module_text history_text asked by parts
    orders_by parts r =
        record {
          program = program;
          is_module = is_module;
          has_orders = orders_named program (module_resolved module_text program is_module) history_text asked by parts r;
        }

    pub needed_by : (parts : List PartOrder) → HasNeededOrders BeginsPlaced CallEnds program history_text asked by parts → AreNeededOrders module_text history_text asked by parts
    needed_by parts r =
        record {
          program = program;
          is_module = is_module;
          has_needed = needed_named program (module_resolved module_text program is_module) history_text asked by parts r;
        }

    pub enough_in : IsEnough module_text history_text most → HasEnough program history_text most
    enough_in r = subst (λ (p : Program). HasEnough p history_text most) (alone r.program r.is_module) r.has_enough

    pub orders_in : (parts : List PartOrder) → AreLegalOrders module_text history_text asked by parts → HasPartOrders BeginsPlaced CallEnds program history_text asked by parts
    orders_in parts r =
        subst (λ (p : Program). HasPartOrders BeginsPlaced CallEnds p history_text asked by parts) (alone r.program r.is_module)
        (orders_placed r.program (module_resolved module_text r.program r.is_module) history_text asked by parts r.has_orders)

    fault_of : (fault : PartsFault) → HasPartsFault BeginsPlaced TrapsPlaced CallEnds program history_text asked by most fault → IsFaultOfParts module_text history_text asked by most fault
    fault_of fault f =
        record {
          program = program;
          is_module = is_module;
          fails = fault_named program (module_resolved module_text program is_module) history_text asked by most fault f;
        }

    pub told_of : (fault : PartsFault) → HasPartsFault BeginsPlaced TrapsPlaced CallEnds program history_text asked by most fault → IsPartsFault module_text history_text asked by most fault
    told_of (Faults.Text e) f = absurd f
    told_of (Faults.Form line) f = fault_of (Faults.Form line) f
    told_of (Faults.Open e) f = fault_of (Faults.Open e) f
    told_of (Faults.Short id) f = fault_of (Faults.Short id) f
    told_of (Faults.Illegal id v) f = fault_of (Faults.Illegal id v) f
    told_of Faults.TooMany f = fault_of Faults.TooMany f
    told_of Faults.NoMemory f = tt
