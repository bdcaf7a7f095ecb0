-- By the end that stands there.
use Rattle.std.proofs.Common.{sym, ◌∙◌, arith}
use Rattle.wf_order.proofs.Limits.{limit_within}
use Rattle.wf_order.proofs.front.goes_farther.Goals as goal

pub returns-then-end-place : goal.returns-then-end-place
returns-then-end-place c = λ no history are.
    limit_within c.args.rows.now c.args.counts.now history are c.loop-process.process c.in-Some.end c.args.place (let within = c.loop-process-test.true in omega (arith, within)) (sym c.ended_at.ensures ∙ c.in-Some.is) c.if-end-place.true
