-- By the procedure and the arguments.
use Rattle.std.proofs.Common.{◌≡◌}
use Rattle.wf_outcomes.proofs.remembered_calls.is_same_call.Goals as goal

pub returns-then-call-other : goal.returns-then-call-other
returns-then-call-other c = λ t.
    let lists : c.args.call.now.args.items ≡ c.args.other.now.args.items = c.has_same_arguments.ensures t in
    let procs : c.args.call.now.proc ≡ c.args.other.now.proc = c.if-call-other.true in
    cc
