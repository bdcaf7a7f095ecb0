use Rattle.std.proofs.Common.{◌∙◌, sym}
use Rattle.ob_text_reading.proofs.Counting.{export_none}
use Rattle.ob_text_reading.proofs.Growing.{ends_numbered, events_end, named_end}
use Rattle.ob_text_reading.proofs.HistoryPlaces.{known_place}
use Rattle.ob_text_reading.proofs.named_processes.NamedCalls.end.Goals as goal

pub returns-in_default : goal.returns-in_default
returns-in_default c =
    let at = rw (← c.self.view_is) at (sym c.place_known.ensures ∙ c.in_default.is) in
    absurd (export_none _ c.self.invariant.0 c.args.id at _ (rw (← c.self.view_is) at c.requires))

pub end-requires-clause-next : goal.end-requires-clause-next
end-requires-clause-next c =
    let at = known_place _ _ _ (rw (← c.self.view_is) at (sym c.place_known.ensures ∙ c.in-Some.is)) in
    ends_numbered _ c.self.invariant.0 c.args.id.process c.in-Some.process c.args.id.number at _ (rw (← c.self.view_is) at c.requires)

pub invariant_of-result : goal.invariant_of-result
invariant_of-result c =
    let at = known_place _ _ _ (rw (← c.self.view_is) at (sym c.place_known.ensures ∙ c.in-Some.is)) in
    let next = ends_numbered _ c.self.invariant.0 c.args.id.process c.in-Some.process c.args.id.number at _ (rw (← c.self.view_is) at c.requires) in
    rw c.in_ok-end.ensures.ok
    (named_end _ c.self.invariant.0 c.args.id.process c.in-Some.process c.args.id.number at _ next, c.in_ok-end.ensures.processes ∙ c.self.invariant.1)

pub returns : goal.returns
returns c =
    let at = known_place _ _ _ (rw (← c.self.view_is) at (sym c.place_known.ensures ∙ c.in-Some.is)) in
    rw (c.in_ok-end.ensures.ok, ← c.self.view_is) (events_end _ c.self.invariant.0 c.args.id.process c.in-Some.process c.args.id.number at _)
