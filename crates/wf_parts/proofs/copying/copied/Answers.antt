use Rattle.std.proofs.Common.{◌∙◌, List, [], ◌∷◌, ◌++◌, ap₂, map, subst, sym}
use Rattle.ob_interface.specs.Call.{ObjectCall, Reply}
use Rattle.wf_lookup.proofs.Nexts.{next_whole, taken_next}
use Rattle.wf_history.specs.History.{Event, IsHistory}
use Rattle.wf_history.specs.View.{event_of}
use Rattle.wf_lookup.proofs.Items.{item_here}
use Rattle.wf_parts.proofs.copying.copied.Goals as goal

pub push_seen-requires : goal.push_seen-requires
push_seen-requires c =
    let i = c.loop-event.event-index in
    let all = map event_of c.args.events.now in
    let here = item_here event_of c.args.events.now i c.event-item.result c.loop-event-test.true c.event-item.is in
    subst (λ (es : List (Event ObjectCall Reply)). IsHistory es)
    (ap₂ (λ (es : List (Event ObjectCall Reply)) (e : Event ObjectCall Reply). es ++ e ∷ []) (sym c.loop-event.invariant) (sym c.seen.ensures))
    (next_whole all i (event_of c.event-item.result) c.requires here)

pub loop-event-preserved : goal.loop-event-preserved
loop-event-preserved c =
    let i = c.loop-event.event-index in
    let all = map event_of c.args.events.now in
    let here = item_here event_of c.args.events.now i c.event-item.result c.loop-event-test.true c.event-item.is in
    c.in_ok-push_seen.ensures
    ∙ ap₂ (λ (es : List (Event ObjectCall Reply)) (e : Event ObjectCall Reply). es ++ e ∷ []) c.loop-event.invariant c.seen.ensures
    ∙ sym (taken_next all i (event_of c.event-item.result) here)
