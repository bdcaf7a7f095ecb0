-- Each process is tried.
use Rattle.std.proofs.Common.{◌≤◌, length, map, arith}
use Rattle.std.proofs.lemmas.List.{length-map}
use Rattle.wf_history.specs.View.{kept_call}
use Rattle.wf_outcomes.specs.Explored.{all_kept, calls_in}
use Rattle.wf_outcomes.proofs.Growing.{next_place}
use Rattle.wf_outcomes.proofs.exploring.expand.Goals as goal

pub returns-clause-exploring : goal.returns-clause-exploring
returns-clause-exploring g c =
    let task = c.args.task.now in
    let count = length-map task.scripts.now (λ s. map kept_call s.items) in
    let end : length task.scripts.now ≤ c.loop-process.process = c.loop-process-test.false in
    next_place (g.O.Object.effect task.object.now) (calls_in task.scripts.now) (g.O.Object.opening task.object.now) (all_kept g.O.Object.meaning c.loop-process.seen) c.args.place c.loop-process.process
    c.loop-process.invariant.exploring (omega (arith, count, end))
