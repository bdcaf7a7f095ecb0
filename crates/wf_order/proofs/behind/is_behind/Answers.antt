-- By the rows alone.
use Rattle.wf_order.specs.Search.{found_in}
use Rattle.wf_order.proofs.Replacing.{process_behind}
use Rattle.wf_order.proofs.behind.is_behind.Goals as goal

pub returns-then-has_sooner-clause-behind : goal.returns-then-has_sooner-clause-behind
returns-then-has_sooner-clause-behind g c = λ history at t.
    process_behind (g.O.Object.effect c.args.task.now.object.now) history at.0.whole (found_in g.O.Object.meaning c.args.here.now.found.now) c.args.next.now.process (c.has_sooner.ensures history at c.if-has_sooner.true)
