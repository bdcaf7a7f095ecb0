use Rattle.std.proofs.Common.{◌∙◌, ◌+◌, List, [], ap, length, map, refl, subst, sym, take}
use Rattle.std.proofs.lemmas.List.{length-map, take-map}
use Rattle.std.proofs.lemmas.Result.{err_from_is_err_and}
use Rattle.ob_interface.specs.Call.{ObjectCall, Reply}
use Rattle.ob_object_draw.proofs.Parted.{all_shown, fault_of_front, front_shown, illegal_by, legal_by}
use Rattle.ob_object_draw.specs.Parts.{IsFaultIn, IsLegalIn, effect_in, opening_in}
use Rattle.ob_text_reading.specs.Names.{named_id}
use Rattle.wf_history.specs.History.{Event, IsHistory}
use Rattle.wf_history.specs.View.{event_of}
use Rattle.wf_lookup.proofs.Turns.{take_whole}
use Rattle.wf_order.specs.Verdict.{HasLegal}
use Rattle.ob_object_draw.proofs.drawn_part.legal_part.Goals as goal

abbrev Events : Type 0
Events = List (Event ObjectCall Reply)

pub order_before-requires-clause-whole : goal.order_before-requires-clause-whole
order_before-requires-clause-whole c =
    let events = c.events-in-Illegal.result.now in
    let place = c.in-Illegal.place in
    subst (λ (es : Events). IsHistory es) (take-map event_of place events)
    (take_whole place (map event_of events) (subst (λ (es : Events). IsHistory es) (sym c.events-in-Illegal.ensures.value) c.events-in-Illegal.ensures.in_turn))

pub order_before-requires-clause-legal : goal.order_before-requires-clause-legal
order_before-requires-clause-legal c =
    let o = c.args.object.now in
    let place = c.in-Illegal.place in
    let front = sym (take-map event_of place c.events-in-Illegal.result.now) ∙ ap (λ (es : Events). take place es) c.events-in-Illegal.ensures.value in
    let found = illegal_by o c.args.history.now c.args.search.now.most _ c.in_ok-order.ensures.verdict c.in-Illegal.id place c.in-Illegal.is in
    subst (λ (es : Events). HasLegal (effect_in o) (opening_in o) es) (sym front) found.0.legal

pub returns-in_err-order-in-Illegal-clause-fault : goal.returns-in_err-order-in-Illegal-clause-fault
returns-in_err-order-in-Illegal-clause-fault c =
    let o = c.args.object.now in
    let place = c.in-Illegal.place in
    let most = c.args.search.now.most in
    let e = c.in_err-order-in-Illegal.field-0.0 in
    let front = sym (take-map event_of place c.events-in-Illegal.result.now) ∙ ap (λ (es : Events). take place es) c.events-in-Illegal.ensures.value in
    let p = err_from_is_err_and c.from_residual-in_err-order-in-Illegal.result c.from_residual-in_err-order-in-Illegal.ensures.1 in
    rw (p.1, p.2)
    (fault_of_front o c.args.names.now c.requires.apart c.args.history.now c.requires.below c.events-in-Illegal.ensures.in_turn place most e
    (subst (λ (es : Events). IsFaultIn o es [] most e) front c.in_err-order-in-Illegal.ensures.fault))

pub returns-in_ok-named_ids-in-Legal-clause-shown : goal.returns-in_ok-named_ids-in-Legal-clause-shown
returns-in_ok-named_ids-in-Legal-clause-shown c =
    let o = c.args.object.now in
    let events = c.events.result.now in
    all_shown o c.args.names.now c.requires.apart c.args.history.now c.requires.below c.in-Legal.order.items
    (legal_by o c.args.history.now c.args.search.now.most _ c.in_ok-order.ensures.verdict c.in-Legal.order c.in-Legal.is)
    (length events) (sym (length-map events event_of) ∙ ap (λ (es : Events). length es) c.events.ensures.value)
    _ (c.in_ok-named_ids-in-Legal.ensures ∙ ap (map (named_id c.args.names.now)) c.as_slice.ensures.value)

pub returns-in_ok-named_ids-in-Illegal-clause-shown : goal.returns-in_ok-named_ids-in-Illegal-clause-shown
returns-in_ok-named_ids-in-Illegal-clause-shown c =
    let o = c.args.object.now in
    let place = c.in-Illegal.place in
    let order = c.in_ok-order-in-Illegal.order.items in
    let front = sym (take-map event_of place c.events-in-Illegal.result.now) ∙ ap (λ (es : Events). take place es) c.events-in-Illegal.ensures.value in
    let found = illegal_by o c.args.history.now c.args.search.now.most _ c.in_ok-order.ensures.verdict c.in-Illegal.id place c.in-Illegal.is in
    front_shown o c.args.names.now c.requires.apart c.args.history.now c.requires.below place found.0 order
    (subst (λ (es : Events). IsLegalIn o es order) front c.in_ok-order-in-Illegal.ensures.order)
    (place + 1) refl
    _ (c.in_ok-named_ids-in-Illegal.ensures ∙ ap (map (named_id c.args.names.now)) c.as_slice-in-Illegal.ensures.value)
    _ (c.named.ensures ∙ ap (named_id c.args.names.now) (sym found.1))
