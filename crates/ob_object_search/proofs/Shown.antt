-- What is found of the first events by small numbers, as what is shown by names.
use Rattle.std.proofs.Common.{◌≡◌, ◌∙◌, ℕ, List, [], ◌∷◌, ◌++◌, Option, Some, All, length, take, sym, ap, subst, option_map, inl, inr}
use Rattle.std.proofs.lemmas.List.{map-append}
use Rattle.std.proofs.lemmas.List.Elements.{All-weaker, Contains-push_cases}
use Rattle.std.proofs.lemmas.Option.{slice_get-map}
use Rattle.std.specs.List.{slice_get}
use Rattle.ob_interface.specs.Call.{ObjectCall, Reply}
use Rattle.ob_interface.specs.View.{reply_of}
use Rattle.ob_interface.specs.declared.call.Reply as Rust
use Rattle.ob_object_run.specs.LegalOrder.{CallEnds}
use Rattle.ob_object_search.proofs.Renamed.{has_named}
use Rattle.ob_object_search.specs.Found.{HasOrderHere, IsNeededHere}
use Rattle.ob_object_search.proofs.Fronts.{below_front, named_front}
use Rattle.ob_object_search.specs.EndEvidence.{CouldEnd, EndsNowhere, HasEvidence, IsNoEnd, Shows}
use Rattle.ob_object_search.specs.declared.witness.Evidence.{Evidence}
use Rattle.ob_object_search.specs.Heard.{IsHeard}
use Rattle.ob_object_search.specs.declared.order_recording.Heard as Heards
use Rattle.ob_object_calls.specs.Beginnings.{BeginsPlaced}
use Rattle.ob_meaning.specs.ByPositionStore.{Activation}
use Rattle.ob_store.specs.View.{state_of}
use Rattle.ob_text_reading.specs.Names.{AreApart, AreBelow, IsBelow, named, named_all, named_id}
use Rattle.ob_text_reading.specs.HistoryContents.{told_of}
use Rattle.ob_typing.specs.Program.{Program}
use Rattle.wf_lookup.specs.Beginnings.{open_calls}
use Rattle.wf_history.proofs.Positions.{contains_at}
use Rattle.wf_history.specs.History.{Event, End}
use Rattle.wf_history.specs.Legal.{IsLegal}
use Rattle.wf_history.specs.declared.event.CallId.{CallId}
use Rattle.wf_needed.specs.Needed.{NoneIsNeedless}
use Rattle.wf_order.specs.Verdict.{HasLegal}

module _ (names : List ℕ) (apart : AreApart names) (history : List (Event ObjectCall Reply)) (below : AreBelow (length names) history) where
  -- the end by its name
  pub end_named : (place : ℕ) (end id : CallId) (reply : Reply) → named_id names end ≡ id → slice_get history place ≡ Some (End end reply) →
      slice_get (named_all names history) place ≡ Some (End id reply)
  end_named place end id reply is here =
      slice_get-map (named names) history place ∙ ap (option_map (named names)) here ∙ ap (λ (i : CallId). Some (End i reply)) is

  module _ {State : Type 0} (Effect : ObjectCall → State → State → Reply → Type 0) (opening : State) (place : ℕ) (end : CallId) (first : Reply) (here : slice_get history place ≡ Some (End end first)) where
    below_end : (reply : Reply) → AreBelow (length names) (take place history ++ End end reply ∷ [])
    below_end reply e in_it =
        elim (Contains-push_cases (take place history) (End end reply) e in_it) [
          | inl before ↦ below_front names history below place e before
          | inr same ↦ subst (λ (x : Event ObjectCall Reply). IsBelow (length names) x) same (below (End end first) (contains_at history place (End end first) here))
        ]

    -- what could have been by small numbers, could have been by names
    pub could_named : (reply : Reply) → HasLegal Effect opening (take place history ++ End end reply ∷ []) → CouldEnd Effect opening (named_all names history) (named_id names end) place reply
    could_named reply h =
        subst (λ (es : List (Event ObjectCall Reply)). HasLegal Effect opening es)
        (map-append (named names) (take place history) (End end reply ∷ []) ∙ ap (λ (es : List (Event ObjectCall Reply)). es ++ End (named_id names end) reply ∷ []) (sym (named_front names history place)))
        (has_named names apart (take place history ++ End end reply ∷ []) (below_end reply) Effect opening h)

module _ (program : Program) (text : List ℕ) (asked : Option ℕ) (h : Heards.Heard) (heard : IsHeard program text asked h) where
  abbrev names : List ℕ
  names = h.read.processes.items

  abbrev history : List (Event ObjectCall Reply)
  history = h.read.history

  abbrev Ends : ObjectCall → Activation → Activation → Reply → Type 0
  Ends = CallEnds program h.budget

  pub no_end : (id : CallId) → EndsNowhere (named_all names history) id → IsNoEnd program text id
  no_end id none = record { tells = told_of h.read; is_history = heard.history; ends_nowhere = none }

  pub evident : (place : ℕ) (end id : CallId) (reply : Reply) → named_id names end ≡ id → slice_get history place ≡ Some (End end reply) → (e : Evidence) →
      HasOrderHere program h.budget (state_of h.opening) (take place history) names e.order.items → IsNeededHere program h.budget (state_of h.opening) (take place history) names e.order.items → e.open_calls.items ≡ open_calls (named_all names (take place history)) →
      All (λ r. HasLegal Ends (state_of h.opening) (take place history ++ End end (reply_of r) ∷ [])) e.replies.items →
      HasEvidence BeginsPlaced CallEnds program text asked id e
  evident place end id reply is here e order needed are_open possible =
      record {
        start = record { tells = told_of h.read; is_history = heard.history; opening = state_of h.opening; begins = heard.begins };
        shows = subst (λ (b : ℕ). Shows (CallEnds program b) (state_of h.opening) (named_all names history) id e) heard.budget
            (record {
              place = place;
              reply = reply;
              ends = end_named names heard.apart history heard.below place end id reply is here;
              last = order.0;
              legal = subst (λ (es : List (Event ObjectCall Reply)). IsLegal Ends (state_of h.opening) es e.order.items order.0) (sym (named_front names history place)) order.1;
              needed = subst (λ (es : List (Event ObjectCall Reply)). NoneIsNeedless Ends (state_of h.opening) es e.order.items) (sym (named_front names history place)) needed;
              are_open = are_open ∙ ap open_calls (sym (named_front names history place));
              possible = All-weaker _ _
                  (λ r could. subst (λ (i : CallId). CouldEnd Ends (state_of h.opening) (named_all names history) i place (reply_of r)) is
                  (could_named names heard.apart history heard.below Ends (state_of h.opening) place end reply here (reply_of r) could)) e.replies.items possible;
            });
      }

  -- replies that are possible for the object that begins so
  pub possible_found : (p : Program) (b : ℕ) (o : Activation) (before events : List (Event ObjectCall Reply)) (end : CallId) (replies : List Rust.Reply) →
      p ≡ program → b ≡ h.budget → o ≡ state_of h.opening → events ≡ before →
      All (λ r. HasLegal (CallEnds p b) o (events ++ End end (reply_of r) ∷ [])) replies → All (λ r. HasLegal Ends (state_of h.opening) (before ++ End end (reply_of r) ∷ [])) replies
  possible_found p b o before events end replies same_program same_budget same_opening same_events all =
      subst (λ (x : Program). All (λ r. HasLegal (CallEnds x h.budget) (state_of h.opening) (before ++ End end (reply_of r) ∷ [])) replies) same_program
      (subst (λ (x : ℕ). All (λ r. HasLegal (CallEnds p x) (state_of h.opening) (before ++ End end (reply_of r) ∷ [])) replies) same_budget
      (subst (λ (x : Activation). All (λ r. HasLegal (CallEnds p b) x (before ++ End end (reply_of r) ∷ [])) replies) same_opening
      (subst (λ (x : List (Event ObjectCall Reply)). All (λ r. HasLegal (CallEnds p b) o (x ++ End end (reply_of r) ∷ [])) replies) same_events all)))
