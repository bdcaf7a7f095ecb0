-- What is shown by positions, as what is shown of both texts by what the module means.
use Rattle.std.proofs.Common.{ℕ, List, [], ◌∷◌, ◌++◌, Option, Some, None, MatchOption, take, inl, inr}
use Rattle.std.proofs.lemmas.List.Elements.{All-weaker, Contains-push_cases}
use Rattle.ob_meaning.specs.Resolved.{IsResolved}
use Rattle.ob_meaning.specs.Same.{SameState}
use Rattle.ob_code_correct.proofs.Named.{names_simulate, positions_simulate}
use Rattle.ob_code_correct.specs.Carried.{BegunFit}
use Rattle.ob_code_correct.specs.Compiled.{Fits}
use Rattle.ob_code_correct.specs.Named.{CallMeans}
use Rattle.ob_interface.specs.Call.{ObjectCall, Reply}
use Rattle.ob_interface.specs.View.{reply_of}
use Rattle.ob_meaning.specs.ByNameObject.{State}
use Rattle.ob_object_run.specs.LegalOrder.{CallEnds}
use Rattle.ob_object_search.proofs.Crossing.{IsPlaced}
use Rattle.ob_object_search.proofs.Fitting.{calls_fit, front_fits, history_opened}
use Rattle.ob_object_search.specs.Searched.{budget_of}
use Rattle.ob_object_search.specs.EndEvidence.{HasEvidence, IsEvidence, IsNoEnd, NeverEnds, Shows}
use Rattle.ob_object_search.specs.declared.witness.Evidence.{Evidence}
use Rattle.ob_object_calls.proofs.Beginnings.{beginning_named}
use Rattle.ob_object_calls.proofs.Openings.{module_resolved}
use Rattle.ob_object_calls.proofs.Simulated.{legal_there}
use Rattle.ob_object_calls.specs.Beginnings.{BeginsNamed, BeginsPlaced}
use Rattle.ob_meaning.specs.ByPositionStore.{Activation}
use Rattle.ob_typing.specs.ModuleText.{IsModule}
use Rattle.ob_typing.specs.Program.{Program}
use Rattle.wf_history.specs.History.{Event, Begin, End}
use Rattle.wf_history.specs.declared.event.CallId.{CallId}
use Rattle.wf_order.specs.Verdict.{HasLegal}

-- no more calls begin with an end
end_fits : (fits : ObjectCall → Type 0) (events : List (Event ObjectCall Reply)) (id : CallId) (reply : Reply) → BegunFit fits events → BegunFit fits (events ++ End id reply ∷ [])
end_fits fits events id reply fit other call begun =
    elim (Contains-push_cases events (End id reply) (Begin other call) begun) [ inl before ↦ fit other call before | inr same ↦ absurd (cc) ]

module _ (program : Program) (good : IsResolved program) where
  abbrev IsNamed : Activation → State → Type 0
  IsNamed activation state = SameState program state activation

  module _ (budget : ℕ) (activation : Activation) (state : State) (is : SameState program state activation) where
    legal_named : (events : List (Event ObjectCall Reply)) → BegunFit (Fits program) events → HasLegal (CallEnds program budget) activation events → HasLegal (CallMeans program budget) state events
    legal_named events fit h =
        let l = legal_there (Fits program) IsNamed (CallEnds program budget) (CallMeans program budget) (names_simulate program budget good) events h.0 fit activation state is h.1 h.2 in
        (h.0, l.end, l.legal)

    shows_named : (events : List (Event ObjectCall Reply)) → BegunFit (Fits program) events → (id : CallId) (e : Evidence) →
        Shows (CallEnds program budget) activation events id e → Shows (CallMeans program budget) state events id e
    shows_named events fit id e s =
        let fits = front_fits program events s.place fit in
        let l = legal_there (Fits program) IsNamed (CallEnds program budget) (CallMeans program budget) (names_simulate program budget good) (take s.place events) e.order.items fits activation state is s.last s.legal in
        record {
          place = s.place;
          reply = s.reply;
          ends = s.ends;
          last = l.end;
          legal = l.legal;
          needed = λ first rest x last parts never legal.
              let back = legal_there (Fits program) (IsPlaced program good) (CallMeans program budget) (CallEnds program budget) (positions_simulate program budget good) (take s.place events) (first ++ rest) fits state activation is last legal in
              s.needed first rest x back.end parts never back.legal;
          are_open = s.are_open;
          possible = All-weaker _ _
              (λ r could. legal_named (take s.place events ++ End id (reply_of r) ∷ []) (end_fits (Fits program) (take s.place events) id (reply_of r) fits) could) e.replies.items s.possible;
        }

  pub evidence_named : (text : List ℕ) (asked : Option ℕ) (id : CallId) (e : Evidence) → HasEvidence BeginsPlaced CallEnds program text asked id e → HasEvidence BeginsNamed CallMeans program text asked id e
  evidence_named text asked id e h =
      let t = h.start.tells in
      let o = beginning_named program good t.carried (history_opened program text t h.start.is_history) h.start.opening h.start.begins in
      record {
        start = record { tells = t; is_history = h.start.is_history; opening = o.0; begins = o.1 };
        shows = shows_named (budget_of asked t.budget) h.start.opening o.0 o.2 t.events (calls_fit program text t h.start.is_history) id e h.shows;
      }

module _ (module_text history_text : List ℕ) (program : Program) (is_module : IsModule module_text program) (id : CallId) where
  none_by : IsNoEnd program history_text id → NeverEnds module_text history_text id
  none_by h = record { program = program; is_module = is_module; no_end = h }

  evidence_by : (asked : Option ℕ) (e : Evidence) → HasEvidence BeginsPlaced CallEnds program history_text asked id e → IsEvidence module_text history_text asked id e
  evidence_by asked e h =
      record { program = program; is_module = is_module; has_evidence = evidence_named program (module_resolved module_text program is_module) history_text asked id e h }

  pub found_by : (asked : Option ℕ) (found : Option Evidence) → MatchOption found (IsNoEnd program history_text id) (HasEvidence BeginsPlaced CallEnds program history_text asked id) →
      MatchOption found (NeverEnds module_text history_text id) (IsEvidence module_text history_text asked id)
  found_by asked None h = none_by h
  found_by asked (Some e) h = evidence_by asked e h
