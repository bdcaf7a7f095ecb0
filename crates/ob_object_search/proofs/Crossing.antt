-- Histories by position and by name: they have the same legal orders, and cease at the same call to have one.
use Rattle.std.proofs.Common.{ℕ, ◌+◌, List, ◌++◌, Option, take}
use Rattle.ob_meaning.specs.Resolved.{IsResolved}
use Rattle.ob_meaning.specs.Same.{SameState}
use Rattle.ob_code_correct.proofs.Named.{names_simulate, positions_simulate}
use Rattle.ob_code_correct.specs.Carried.{BegunFit}
use Rattle.ob_code_correct.specs.Compiled.{Fits}
use Rattle.ob_code_correct.specs.Named.{CallMeans}
use Rattle.ob_interface.specs.Call.{ObjectCall, Reply}
use Rattle.ob_mean.specs.declared.openings.OpenFault.TheVariants as Open
use Rattle.ob_meaning.specs.ByNameObject.{State}
use Rattle.ob_object_run.specs.LegalOrder.{CallEnds}
use Rattle.ob_object_search.proofs.Fitting.{calls_fit, front_fits, history_opened}
use Rattle.ob_object_search.specs.Searched.{HasNoneNeedless, HasOrder, budget_of}
use Rattle.ob_object_search.specs.SearchFaults.{CeasesAt, HasSearchFault}
use Rattle.ob_object_search.specs.declared.searching.SearchFault.{SearchFault}
use Rattle.ob_object_search.specs.declared.searching.SearchFault.TheVariants as Faults
use Rattle.ob_object_calls.proofs.Beginnings.{beginning_named, beginning_placed, trap_named}
use Rattle.ob_object_calls.proofs.Simulated.{legal_there}
use Rattle.ob_object_calls.specs.Beginnings.{BeginsNamed, BeginsPlaced, TrapsNamed, TrapsPlaced}
use Rattle.ob_meaning.specs.ByPositionStore.{Activation}
use Rattle.ob_typing.specs.Program.{Program}
use Rattle.wf_history.specs.History.{Event}
use Rattle.wf_history.specs.declared.event.CallId.{CallId}
use Rattle.wf_order.specs.Verdict.{HasLegal}

module _ (program : Program) (good : IsResolved program) where
  -- a state by position is one by name, and the other way round
  abbrev pub IsNamed : Activation → State → Type 0
  IsNamed activation state = SameState program state activation

  abbrev pub IsPlaced : State → Activation → Type 0
  IsPlaced state activation = SameState program state activation

  module _ (budget : ℕ) (activation : Activation) (state : State) (is : SameState program state activation) where
    pub has_named : (events : List (Event ObjectCall Reply)) → BegunFit (Fits program) events → HasLegal (CallEnds program budget) activation events → HasLegal (CallMeans program budget) state events
    has_named events fit h =
        let l = legal_there (Fits program) IsNamed (CallEnds program budget) (CallMeans program budget) (names_simulate program budget good) events h.0 fit activation state is h.1 h.2 in
        (h.0, l.end, l.legal)

    pub has_placed : (events : List (Event ObjectCall Reply)) → BegunFit (Fits program) events → HasLegal (CallMeans program budget) state events → HasLegal (CallEnds program budget) activation events
    has_placed events fit h =
        let l = legal_there (Fits program) IsPlaced (CallMeans program budget) (CallEnds program budget) (positions_simulate program budget good) events h.0 fit state activation is h.1 h.2 in
        (h.0, l.end, l.legal)

    pub ceases_named : (events : List (Event ObjectCall Reply)) → BegunFit (Fits program) events → (id : CallId) → CeasesAt (CallEnds program budget) activation events id → CeasesAt (CallMeans program budget) state events id
    ceases_named events fit id c =
        record {
          place = c.place;
          last = record {
            id = c.last.id;
            reply = c.last.reply;
            end = c.last.end;
            legal = has_named (take c.place events) (front_fits program events c.place fit) c.last.legal;
            none = λ h. c.last.none (has_placed (take (c.place + 1) events) (front_fits program events (c.place + 1) fit) h);
          };
          is = c.is;
          none = λ h. c.none (has_placed events fit h);
        }

  module _ (text : List ℕ) (asked : Option ℕ) where
    pub order_named : (order : List CallId) → HasOrder BeginsPlaced CallEnds program text asked order → HasOrder BeginsNamed CallMeans program text asked order
    order_named order r =
        let t = r.start.tells in
        let o = beginning_named program good t.carried (history_opened program text t r.start.is_history) r.start.opening r.start.begins in
        let legal = legal_there (Fits program) IsNamed (CallEnds program (budget_of asked t.budget)) (CallMeans program (budget_of asked t.budget)) (names_simulate program (budget_of asked t.budget) good)
        t.events order (calls_fit program text t r.start.is_history) r.start.opening o.0 o.2 r.last r.legal in
        record { start = record { tells = t; is_history = r.start.is_history; opening = o.0; begins = o.1 }; last = legal.end; legal = legal.legal }

    pub order_placed : (order : List CallId) → HasOrder BeginsNamed CallMeans program text asked order → HasOrder BeginsPlaced CallEnds program text asked order
    order_placed order r =
        let t = r.start.tells in
        let o = beginning_placed program good t.carried r.start.opening r.start.begins in
        let legal = legal_there (Fits program) IsPlaced (CallMeans program (budget_of asked t.budget)) (CallEnds program (budget_of asked t.budget)) (positions_simulate program (budget_of asked t.budget) good)
        t.events order (calls_fit program text t r.start.is_history) r.start.opening o.0 o.2 r.last r.legal in
        record { start = record { tells = t; is_history = r.start.is_history; opening = o.0; begins = o.1 }; last = legal.end; legal = legal.legal }

    pub needed_named : (order : List CallId) → HasNoneNeedless BeginsPlaced CallEnds program text asked order → HasNoneNeedless BeginsNamed CallMeans program text asked order
    needed_named order needed first rest id parts opens has = needed first rest id parts opens (order_placed (first ++ rest) has)

    pub fault_named : (most : ℕ) (e : SearchFault) → HasSearchFault BeginsPlaced TrapsPlaced CallEnds program text asked most e → HasSearchFault BeginsNamed TrapsNamed CallMeans program text asked most e
    fault_named most (Faults.Text e) h = h
    fault_named most (Faults.Form line) h = h
    fault_named most (Faults.Open (Open.Trap k)) h = record { tells = h.tells; is_history = h.is_history; traps = trap_named program good h.tells.carried k h.traps }
    fault_named most (Faults.Open Open.NoMemory) h = h
    fault_named most (Faults.Illegal id) h =
        let t = h.start.tells in
        let o = beginning_named program good t.carried (history_opened program text t h.start.is_history) h.start.opening h.start.begins in
        record {
          start = record { tells = t; is_history = h.start.is_history; opening = o.0; begins = o.1 };
          ceases = ceases_named (budget_of asked t.budget) h.start.opening o.0 o.2 t.events (calls_fit program text t h.start.is_history) id h.ceases;
        }
    fault_named most Faults.TooMany h = record { start = h.start; many = h.many }
    fault_named most Faults.NoMemory h = tt
