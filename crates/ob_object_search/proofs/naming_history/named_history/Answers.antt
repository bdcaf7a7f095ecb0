use Rattle.std.proofs.Common.{◌∙◌, List, [], ◌∷◌, ◌++◌, ap, ap₂, arith, length, map, subst, sym}
use Rattle.std.proofs.lemmas.List.{length-map, take_all}
use Rattle.ob_interface.specs.Call.{ObjectCall, Reply}
use Rattle.ob_object_search.proofs.Copied.{copied_next, copied_whole}
use Rattle.ob_text_reading.specs.Names.{AreBelow, named, named_all}
use Rattle.wf_history.specs.History.{Event, IsHistory}
use Rattle.wf_history.specs.View.{event_of}
use Rattle.wf_lookup.proofs.Items.{item_here}
use Rattle.ob_object_search.proofs.naming_history.named_history.Goals as goal

pub push_seen-requires : goal.push_seen-requires
push_seen-requires c =
    let names = c.args.names.now in
    let i = c.loop-event.event-index in
    let events = c.events-events.result.now in
    let value = c.events-events.ensures.value in
    let below = subst (λ (es : List (Event ObjectCall Reply)). AreBelow (length names) es) (sym value) c.requires.below in
    let whole = subst (λ (es : List (Event ObjectCall Reply)). IsHistory es) (sym value) c.events-events.ensures.in_turn in
    let here = item_here event_of events i c.event-item.result c.loop-event-test.true c.event-item.is in
    subst (λ (es : List (Event ObjectCall Reply)). IsHistory es)
    (ap₂ (λ (es : List (Event ObjectCall Reply)) (e : Event ObjectCall Reply). es ++ e ∷ []) (sym c.loop-event.invariant) (ap (named names) (sym c.seen.ensures) ∙ sym c.named_event.ensures))
    (copied_whole names c.requires.apart (map event_of events) below whole i (event_of c.event-item.result) here)

pub loop-event-preserved : goal.loop-event-preserved
loop-event-preserved c =
    let names = c.args.names.now in
    let i = c.loop-event.event-index in
    let events = c.events-events.result.now in
    let value = c.events-events.ensures.value in
    let below = subst (λ (es : List (Event ObjectCall Reply)). AreBelow (length names) es) (sym value) c.requires.below in
    let whole = subst (λ (es : List (Event ObjectCall Reply)). IsHistory es) (sym value) c.events-events.ensures.in_turn in
    let here = item_here event_of events i c.event-item.result c.loop-event-test.true c.event-item.is in
    c.in_ok-push_seen.ensures
    ∙ ap₂ (λ (es : List (Event ObjectCall Reply)) (e : Event ObjectCall Reply). es ++ e ∷ []) c.loop-event.invariant (c.named_event.ensures ∙ ap (named names) c.seen.ensures)
    ∙ sym (copied_next names c.requires.apart (map event_of events) below whole i (event_of c.event-item.result) here)

pub returns : goal.returns
returns c =
    let events = c.events-events.result.now in
    let past = c.loop-event-test.false in
    let size = length-map events event_of in
    c.loop-event.invariant ∙ ap (named_all c.args.names.now) (take_all c.loop-event.event-index (map event_of events) (omega (arith, past, size)) ∙ c.events-events.ensures.value)
