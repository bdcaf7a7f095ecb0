-- Lists of arguments are the same where they are equal.
use Rattle.std.proofs.Common.{◌≡◌}
use Rattle.wf_lookup.proofs.compared_replies.is_same_call.Goals as goal

pub returns-then-call-other : goal.returns-then-call-other
returns-then-call-other c = λ t.
    let lists : c.args.call.args.now.items ≡ c.args.other.args.now.items = c.are_same.ensures t in
    let procs : c.args.call.proc ≡ c.args.other.proc = c.if-call-other.true in
    cc
