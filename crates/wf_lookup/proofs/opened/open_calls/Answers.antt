use Rattle.std.proofs.Common.{◌∙◌, List, ap, map, sym}
use Rattle.wf_lookup.proofs.OpenCalls.{opened_next}
use Rattle.wf_lookup.specs.Beginnings.{open_behind}
use Rattle.wf_history.specs.View.{event_of}
use Rattle.wf_history.specs.declared.event.CallId.{CallId}
use Rattle.wf_lookup.proofs.Items.{item_here}
use Rattle.wf_lookup.proofs.opened.open_calls.Goals as goal

pub loop-event-preserved : goal.loop-event-preserved
loop-event-preserved c =
    let i = c.loop-event.event-index in
    let events = map event_of c.args.events.now in
    let e = event_of c.event-item.result in
    let here = item_here event_of c.args.events.now i c.event-item.result c.loop-event-test.true c.event-item.is in
    c.in_ok-note.ensures ∙ ap (λ (ids : List CallId). open_behind ids e) c.loop-event.invariant ∙ sym (opened_next events i e c.requires here)
