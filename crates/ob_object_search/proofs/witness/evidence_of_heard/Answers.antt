use Rattle.std.proofs.Common.{◌≡◌, ◌∙◌, ℕ, List, [], ◌∷◌, ◌++◌, Some, ap, arith, length, map, refl, subst, sym, take}
use Rattle.std.proofs.lemmas.List.{length-map, length-take-le, take-map}
use Rattle.std.proofs.lemmas.Option.{slice_get_within}
use Rattle.std.proofs.lemmas.Result.{err_from_is_err_and}
use Rattle.std.specs.List.{slice_get}
use Rattle.ob_checked.specs.CheckedModule.{program_in}
use Rattle.ob_interface.specs.Call.{ObjectCall, Reply}
use Rattle.ob_object_run.specs.LegalOrder.{CallEnds}
use Rattle.ob_object_search.specs.Found.{IsFaultHere}
use Rattle.ob_object_search.proofs.Ended.{ends_with}
use Rattle.ob_object_search.proofs.Fronts.{below_front, fault_front}
use Rattle.ob_object_search.proofs.Shown.{evident, no_end, possible_found}
use Rattle.ob_object_search.specs.EndEvidence.{EndsNowhere}
use Rattle.ob_object_search.proofs.Recorded.{fault_heard, fault_there, legal_found, needed_there}
use Rattle.ob_store.specs.View.{state_of}
use Rattle.ob_text_reading.specs.Names.{AreBelow, named_all, named_id}
use Rattle.wf_lookup.specs.Beginnings.{open_calls}
use Rattle.wf_history.specs.History.{Event, End, IsHistory}
use Rattle.wf_history.specs.Legal.{IsLegal}
use Rattle.wf_history.specs.View.{event_of}
use Rattle.wf_needed.specs.Needed.{NoneIsNeedless}
use Rattle.wf_lookup.proofs.Turns.{take_whole}
use Rattle.ob_object_search.proofs.witness.evidence_of_heard.Goals as goal

abbrev Events : Type 0
Events = List (Event ObjectCall Reply)

pub returns-in_default-clause-evidence : goal.returns-in_default-clause-evidence
returns-in_default-clause-evidence c =
    let heard = c.args.heard.now in
    no_end (program_in c.args.checked.now) c.args._text.now c.args.search.now.budget heard c.requires c.args.id
    (subst (λ (ns : List ℕ). EndsNowhere (named_all ns heard.read.history) c.args.id) c.as_slice-names.ensures.value
    (subst (λ (es : Events). EndsNowhere (named_all c.as_slice-names.result.now es) c.args.id) c.events-events.ensures.value c.in_default.ensures))

pub slice_bounds-copied-end : goal.slice_bounds-copied-end
slice_bounds-copied-end c =
    let events = c.events-events.result.now in
    let within = slice_get_within (map event_of events) c.in-Some.place (End c.in-Some.end c.in-Some.ensures.1) c.in-Some.ensures.2 in
    let size = length-map events event_of in
    sym (length-take-le c.in-Some.place events (omega (arith, within, size)))

pub copied-requires : goal.copied-requires
copied-requires c =
    let events = c.events-events.result.now in
    subst (λ (es : Events). IsHistory es) (take-map event_of c.in-Some.place events)
    (take_whole c.in-Some.place (map event_of events) (subst (λ (es : Events). IsHistory es) (sym c.events-events.ensures.value) c.events-events.ensures.in_turn))

pub order_found-requires-clause-below : goal.order_found-requires-clause-below
order_found-requires-clause-below c =
    let place = c.in-Some.place in
    let items = c.args.heard.now.read.processes.items in
    let before : c.in_ok-before.before ≡ take place c.args.heard.now.read.history =
    c.in_ok-before.ensures ∙ sym (take-map event_of place c.events-events.result.now) ∙ ap (λ (es : Events). take place es) c.events-events.ensures.value in
    subst (λ (ns : List ℕ). AreBelow (length ns) c.in_ok-before.before) (sym c.as_slice-names.ensures.value)
    (subst (λ (es : Events). AreBelow (length items) es) (sym before) (below_front items c.args.heard.now.read.history c.requires.below place))

pub named_history-requires-clause-below : goal.named_history-requires-clause-below
named_history-requires-clause-below c =
    let place = c.in-Some.place in
    let items = c.args.heard.now.read.processes.items in
    let before : c.in_ok-before.before ≡ take place c.args.heard.now.read.history =
    c.in_ok-before.ensures ∙ sym (take-map event_of place c.events-events.result.now) ∙ ap (λ (es : Events). take place es) c.events-events.ensures.value in
    subst (λ (ns : List ℕ). AreBelow (length ns) c.in_ok-before.before) (sym c.as_slice-names.ensures.value)
    (subst (λ (es : Events). AreBelow (length items) es) (sym before) (below_front items c.args.heard.now.read.history c.requires.below place))

pub returns-in_err-order-clause-fault : goal.returns-in_err-order-clause-fault
returns-in_err-order-clause-fault c =
    let program = program_in c.args.checked.now in
    let heard = c.args.heard.now in
    let place = c.in-Some.place in
    let most = c.args.search.now.most in
    let e = c.in_err-order.field-0.0 in
    let before : c.in_ok-before.before ≡ take place heard.read.history =
    c.in_ok-before.ensures ∙ sym (take-map event_of place c.events-events.result.now) ∙ ap (λ (es : Events). take place es) c.events-events.ensures.value in
    let p = err_from_is_err_and c.from_residual-in_err-order.result c.from_residual-in_err-order.ensures.1 in
    rw (p.1, p.2)
    (fault_heard program c.args._text.now c.args.search.now.budget heard c.requires most e
    (fault_front program heard.budget (state_of heard.opening) heard.read.processes.items c.requires.apart heard.read.history c.requires.below c.events-events.ensures.in_turn place most e
    (subst (λ (es : Events). IsFaultHere program heard.budget (state_of heard.opening) es heard.read.processes.items most e) before
    (fault_there program c.args._text.now c.args.search.now.budget heard c.requires _ _ _ _
    (ap program_in c.in_ok-object.ensures.checked) c.in_ok-object.ensures.budget (ap state_of c.in_ok-object.ensures.opening) c.as_slice-names.ensures.value
    c.in_ok-before.before most e c.in_err-order.ensures.fault))))

pub possible_replies-requires : goal.possible_replies-requires
possible_replies-requires c = λ reply.
    let place = c.in-Some.place in
    let history = c.args.heard.now.read.history in
    let before : c.in_ok-before.before ≡ take place history =
    c.in_ok-before.ensures ∙ sym (take-map event_of place c.events-events.result.now) ∙ ap (λ (es : Events). take place es) c.events-events.ensures.value in
    let here = subst (λ (es : Events). slice_get es place ≡ Some (End c.in-Some.end c.in-Some.ensures.1)) c.events-events.ensures.value c.in-Some.ensures.2 in
    subst (λ (es : Events). IsHistory (es ++ End c.in-Some.end reply ∷ [])) (sym (c.events-2.ensures.value ∙ before))
    (ends_with history place c.in-Some.end c.in-Some.ensures.1 reply c.events-events.ensures.in_turn here)

pub returns-clause-evidence : goal.returns-clause-evidence
returns-clause-evidence c =
    let program = program_in c.args.checked.now in
    let heard = c.args.heard.now in
    let items = heard.read.processes.items in
    let history = heard.read.history in
    let place = c.in-Some.place in
    let value = c.as_slice-names.ensures.value in
    let object = c.in_ok-object.ensures in
    let before : c.in_ok-before.before ≡ take place history =
    c.in_ok-before.ensures ∙ sym (take-map event_of place c.events-events.result.now) ∙ ap (λ (es : Events). take place es) c.events-events.ensures.value in
    let here = subst (λ (es : Events). slice_get es place ≡ Some (End c.in-Some.end c.in-Some.ensures.1)) c.events-events.ensures.value c.in-Some.ensures.2 in
    let told : named_all c.as_slice-names.result.now c.in_ok-before.before ≡ named_all items (take place history) =
    ap (λ (ns : List ℕ). named_all ns c.in_ok-before.before) value ∙ ap (λ (es : Events). named_all items es) before in
    let order = c.in_ok-order.ensures.order in
    evident program c.args._text.now c.args.search.now.budget heard c.requires place c.in-Some.end c.args.id c.in-Some.ensures.1
    (ap (λ (ns : List ℕ). named_id ns c.in-Some.end) (sym value) ∙ c.in-Some.ensures.0) here
    (record { order = c.in_ok-order.order; open_calls = c.in_ok-open_calls.open_calls; replies = c.in_ok-replies.replies }) (
      order.0,
      subst (λ (es : Events). IsLegal (CallEnds program heard.budget) (state_of heard.opening) es c.in_ok-order.order.items order.0) told
          (legal_found program c.args._text.now c.args.search.now.budget heard c.requires _ _ _ _ (ap program_in object.checked) object.budget (ap state_of object.opening) value
          (named_all c.as_slice-names.result.now c.in_ok-before.before) c.in_ok-order.order.items c.in_ok-order.order.items order.0 refl order.1),
    )
    (subst (λ (es : Events). NoneIsNeedless (CallEnds program heard.budget) (state_of heard.opening) es c.in_ok-order.order.items) told
    (needed_there program c.args._text.now c.args.search.now.budget heard c.requires _ _ _ _ (ap program_in object.checked) object.budget (ap state_of object.opening) value
    (named_all c.as_slice-names.result.now c.in_ok-before.before) c.in_ok-order.order.items c.in_ok-order.ensures.needed))
    (c.in_ok-open_calls.ensures ∙ ap open_calls (c.events.ensures.value ∙ c.in_ok-told.ensures ∙ told))
    (possible_found program c.args._text.now c.args.search.now.budget heard c.requires _ _ _ (take place history) _ c.in-Some.end c.in_ok-replies.replies.items
    (ap program_in object.checked) object.budget (ap state_of object.opening) (c.events-2.ensures.value ∙ before) c.in_ok-replies.ensures)
