-- What may come behind it comes alike; or the state is the same.
use Rattle.std.proofs.Common.{ap, sym, subst, ◌∙◌}
use Rattle.wf_order.specs.Search.{found_in, IsNextStep}
use Rattle.wf_order.specs.Steps.{Configuration}
use Rattle.wf_order.proofs.LeftOut.{left_out}
use Rattle.wf_order.proofs.Taken.{taken_is, within_is}
use Rattle.wf_order.proofs.without.unless_left_out.Goals as goal

pub one_more-requires : goal.one_more-requires
one_more-requires g c = within_is c.deref.result.now c.args.here.now.found.now.counts.items c.args.process c.in-Some-get.ensures.lookup.0 c.deref.ensures

pub returns-then-branch-clause-left_out : goal.returns-then-branch-clause-left_out
returns-then-branch-clause-left_out g c = λ history at.
    let process = c.args.process in
    let found = c.args.here.now.found.now in
    let here = found_in g.O.Object.meaning found in
    let effect = g.O.Object.effect c.args.task.now.object.now in
    let is = taken_is c.deref.result.now found.counts.items process c.in-Some-get.taken.now c.in-Some-get.ensures.lookup.0 c.in-Some-get.ensures.lookup.1 c.deref.ensures in
    let same = ap (λ (x : Configuration g.O.Object.Meaning). x.state) c.in_ok-_id.ensures.found in
    let only = subst (IsNextStep effect history here process) (sym same) (c.requires.step history at) in
    left_out effect (λ call. g.met.O.Object.determined c.args.task.now.object.now call) history c.args.task.now.rows.now here at.0 c.args.here.now.limit at.1 process c.in-Some-get.taken.now is
    (sym c.ended_at.ensures ∙ c.in-None.is) (g.O.Object.meaning c.in_ok-_id.there.state) only (c.in_ok-are_all_alike.ensures.alike history at c.if-branch.true)

pub returns-clause-left_out : goal.returns-clause-left_out
returns-clause-left_out g c = λ history at.
    let here = found_in g.O.Object.meaning c.args.here.now.found.now in
    let same = ap (λ (x : Configuration g.O.Object.Meaning). x.state) c.in_ok-_id.ensures.found in
    subst (IsNextStep (g.O.Object.effect c.args.task.now.object.now) history here c.args.process) (sym same) (c.requires.step history at)

pub returns-then-contains-clause-left_out : goal.returns-then-contains-clause-left_out
returns-then-contains-clause-left_out g c = λ history at.
    let here = found_in g.O.Object.meaning c.args.here.now.found.now in
    let same = ap (λ (x : Configuration g.O.Object.Meaning). x.state) c.in_ok-_id.ensures.found in
    subst (IsNextStep (g.O.Object.effect c.args.task.now.object.now) history here c.args.process) (sym same) (c.requires.step history at)
