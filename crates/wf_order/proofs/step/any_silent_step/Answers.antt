-- The call that is taken is silent, and what it makes is known.
use Rattle.std.proofs.Common.{refl, subst, get_or}
use Rattle.ob_interface.specs.Call.{ObjectCall}
use Rattle.ob_interface.specs.View.{reply_of}
use Rattle.wf_history.specs.View.{seen_call}
use Rattle.wf_order.specs.Search.{found_in}
use Rattle.wf_order.proofs.Stepping.{silent_taken}
use Rattle.wf_order.proofs.step.any_silent_step.Goals as goal

pub returns-then-is_same_reply-clause-silent : goal.returns-then-is_same_reply-clause-silent
returns-then-is_same_reply-clause-silent g c = λ history at.
    let process = c.first-process.result in
    let here = found_in g.O.Object.meaning c.args.here.now.found.now in
    let effect = g.O.Object.effect c.args.task.now.object.now in
    let call = c.in-Some.ensures in
    let now = c.in_ok-now.now in
    let after = g.O.Object.meaning now.state in
    let made : effect (seen_call c.in-Some.begun.call) here.state after (reply_of now.reply) = subst (λ (x : ObjectCall). effect x here.state after (reply_of now.reply)) c.in_ok-now.ensures.1 c.in_ok-now.ensures.0 in
    silent_taken effect (λ call. g.met.O.Object.determined c.args.task.now.object.now call) history c.args.task.now.rows.now here at.0 c.args.here.now.limit at.1 process (get_or here.counts process 0) refl
    c.in-Some.begun call.at.0 c.in-Some.end call.at.1 (c.is_silent.ensures c.if-not-is_silent.false) call.within call.early after (reply_of now.reply) made (c.is_same_reply.ensures.0 c.if-is_same_reply.true)
