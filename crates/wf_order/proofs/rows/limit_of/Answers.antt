-- By the ends of the next calls.
use Rattle.std.proofs.Common.{sym, subst, ◌∙◌, ℕ, ◌+◌, ◌≡◌, length, arith}
use Rattle.wf_order.proofs.Limits.{IsLeastEnd, least_more, least_kept, limit_is}
use Rattle.wf_order.proofs.rows.limit_of.Goals.{in-Some, in_default}
use Rattle.wf_order.proofs.rows.limit_of.Goals as goal

pub loop-process-preserved : goal.loop-process-preserved
loop-process-preserved c =
    let rows = c.args.rows.now in
    let counts = c.args.counts.now in
    let process = c.loop-process.process in
    elim c.match-ended_at.branch [
      | in-Some w ↦ least_more rows counts process c.loop-process.limit c.match-ended_at.limit w.in-Some.end c.loop-process.invariant (sym c.ended_at.ensures ∙ w.in-Some.is) (w.limit-is ∙ w.min-limit.ensures)
      | in_default w ↦ subst (λ (n : ℕ). IsLeastEnd rows counts (process + 1) n) (sym w.limit-is) (least_kept rows counts process c.loop-process.limit c.loop-process.invariant (sym c.ended_at.ensures ∙ w.in_default.is))
    ]

pub returns : goal.returns
returns c = λ history are.
    let process = c.loop-process.process in
    let end = c.loop-process.auto.process-end in
    let past = c.loop-process-test.false in
    let all : process ≡ length c.args.counts.now = omega (arith, end, past) in
    limit_is c.args.rows.now c.args.counts.now history are c.loop-process.limit (subst (λ (n : ℕ). IsLeastEnd c.args.rows.now c.args.counts.now n c.loop-process.limit) all c.loop-process.invariant)
