-- The start alone.
use Rattle.std.proofs.Common.{ap, subst, List, [], map}
use Rattle.std.proofs.lemmas.List.{nil_from_length}
use Rattle.std.specs.List.{Contains}
use Rattle.wf_history.proofs.Positions.{place_of}
use Rattle.wf_outcomes.specs.declared.seen.Found.{Found}
use Rattle.wf_outcomes.specs.Explored.{kept_in, all_kept, calls_in}
use Rattle.wf_outcomes.proofs.Growing.{begun_by}
use Rattle.wf_outcomes.proofs.exploring.begin.Goals as goal

pub arrive-requires-clause-worded : goal.arrive-requires-clause-worded
arrive-requires-clause-worded g c = λ f there.
    let none = nil_from_length c.in_ok-seen.seen.keys c.in_ok-seen.ensures.len in
    let p = place_of [] f (subst (λ (l : List (Found g.row.O-State.Denot)). Contains l f) none there) in
    let e = p.1 in absurd (cc)

pub returns-clause-exploring : goal.returns-clause-exploring
returns-clause-exploring g c =
    let view = kept_in g.O.Object.meaning in
    let task = c.args.task.now in
    let none = ap (map view) (nil_from_length c.in_ok-seen.seen.keys c.in_ok-seen.ensures.len) in
    begun_by (g.O.Object.effect task.object.now) (calls_in task.scripts.now) (g.O.Object.opening task.object.now) (view c.in_ok-first.first) c.in_ok-first.ensures.start
    (all_kept g.O.Object.meaning c.in_ok-seen.seen) none (all_kept g.O.Object.meaning c.arrive.new.seen) c.in_ok-arrive.ensures.found
