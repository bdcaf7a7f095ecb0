use Rattle.std.proofs.Common.{◌∙◌}
use Rattle.ob_text_reading.proofs.Growing.{begins_so, events_more, named_more}
use Rattle.ob_text_reading.proofs.HistoryPlaces.{begins_at, few_names, grown_set, place_below}
use Rattle.ob_text_reading.proofs.named_processes.NamedCalls.begin.Goals as goal

pub begin-requires-clause-below : goal.begin-requires-clause-below
begin-requires-clause-below c =
    let may = rw (← c.self.view_is) at c.requires in
    let g = grown_set _ _ c.args.id.process c.in_ok-process.process c.in_ok-process.ensures.keys c.in_ok-process.ensures.index in
    rw c.self.invariant.1 (place_below _ c.self.invariant.0 c.args.id _ may _ _ g)

pub begin-requires-clause-next : goal.begin-requires-clause-next
begin-requires-clause-next c =
    let may = rw (← c.self.view_is) at c.requires in
    let g = grown_set _ _ c.args.id.process c.in_ok-process.process c.in_ok-process.ensures.keys c.in_ok-process.ensures.index in
    begins_so _ c.self.invariant.0 c.args.id.process c.in_ok-process.process c.args.id.number (begins_at _ c.self.invariant.0 c.args.id _ may _ _ g) _ may.turn

pub invariant_of-result : goal.invariant_of-result
invariant_of-result c =
    let may = rw (← c.self.view_is) at c.requires in
    let g = grown_set _ _ c.args.id.process c.in_ok-process.process c.in_ok-process.ensures.keys c.in_ok-process.ensures.index in
    let next = begins_so _ c.self.invariant.0 c.args.id.process c.in_ok-process.process c.args.id.number (begins_at _ c.self.invariant.0 c.args.id _ may _ _ g) _ may.turn in
    rw c.in_ok-begin.ensures.ok (
      named_more _ c.self.invariant.0 c.args.id.process c.in_ok-process.process c.args.id.number _ g (few_names _ c.self.invariant.0 c.args.id _ may _ _ g) _ next,
      c.in_ok-begin.ensures.processes ∙ c.self.invariant.1,
    )

pub returns : goal.returns
returns c =
    let may = rw (← c.self.view_is) at c.requires in
    let g = grown_set _ _ c.args.id.process c.in_ok-process.process c.in_ok-process.ensures.keys c.in_ok-process.ensures.index in
    rw (c.in_ok-begin.ensures.ok, ← c.self.view_is)
    (events_more _ c.self.invariant.0 c.args.id.process c.in_ok-process.process c.args.id.number _ g (few_names _ c.self.invariant.0 c.args.id _ may _ _ g) _)
