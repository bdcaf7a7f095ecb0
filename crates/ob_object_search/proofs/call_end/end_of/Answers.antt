use Rattle.std.proofs.Common.{◌∙◌, Some, ap, arith, map}
use Rattle.std.proofs.lemmas.List.{length-map}
use Rattle.ob_interface.specs.Call.{ObjectCall, Reply}
use Rattle.ob_object_search.proofs.Ended.{no_end_at_all, no_end_more}
use Rattle.wf_history.specs.History.{Event}
use Rattle.wf_history.specs.View.{event_of}
use Rattle.wf_lookup.proofs.Items.{item_here}
use Rattle.ob_object_search.proofs.call_end.end_of.Goals as goal

pub returns-in-Some : goal.returns-in-Some
returns-in-Some c =
    let here = item_here event_of c.args.events.now c.loop-place.place c.index-events-place.result c.loop-place-test.true c.index-events-place.is in
    (c.in-Some.ensures.0, c.in-Some.ensures.1, here ∙ ap (λ (e : Event ObjectCall Reply). Some e) c.in-Some.ensures.2)

pub loop-place-preserved : goal.loop-place-preserved
loop-place-preserved c =
    let here = item_here event_of c.args.events.now c.loop-place.place c.index-events-place.result c.loop-place-test.true c.index-events-place.is in
    no_end_more c.args.names.now (map event_of c.args.events.now) c.args.id c.loop-place.place (event_of c.index-events-place.result) here c.loop-place.invariant c.in_default.ensures

pub returns : goal.returns
returns c =
    let past = c.loop-place-test.false in
    let size = length-map c.args.events.now event_of in
    no_end_at_all c.args.names.now (map event_of c.args.events.now) c.args.id c.loop-place.place (omega (arith, past, size)) c.loop-place.invariant
