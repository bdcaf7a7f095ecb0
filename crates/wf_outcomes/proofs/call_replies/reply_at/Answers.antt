-- The call is next, and has one outcome.
use Rattle.std.proofs.Common.{refl, sym, subst, ◌<◌, length}
use Rattle.std.proofs.Math.Logic.{∥∥₁_map}
use Rattle.ob_interface.specs.View.{reply_of}
use Rattle.wf_history.specs.View.{kept_call}
use Rattle.wf_outcomes.specs.Explored.{kept_in, calls_in}
use Rattle.wf_outcomes.specs.RememberedCalls.{IsStated}
use Rattle.wf_outcomes.specs.Outcomes.{Answers}
use Rattle.wf_outcomes.specs.declared.seen.Stated.{Stated}
use Rattle.wf_outcomes.proofs.Stepping.{only_reply}
use Rattle.wf_outcomes.proofs.call_replies.reply_at.Goals as goal

pub reply_to-requires-clause-before : goal.reply_to-requires-clause-before
reply_to-requires-clause-before g c = subst (λ (s : Stated g.row.O-State.Denot). IsStated g.O.Object.meaning g.O.Object.words_of s) (sym c.as_ref.ensures) c.requires.words

pub returns : goal.returns
returns g c =
    let task = c.args.task.now in
    let effect = g.O.Object.effect task.object.now in
    let scripts = calls_in task.scripts.now in
    let here = (kept_in g.O.Object.meaning c.args.here.now).here in
    let id = c.args.id in
    let next = c.is_next.ensures.0 c.if-not-is_next.false in
    let within : id.process < length c.args.here.now.counts.items = next.0 in
    let at = sym c.in-Some.ensures in
    ∥∥₁_map c.in_ok-reply.ensures (λ said.
    let answers = subst (λ (s : Stated g.row.O-State.Denot). Answers effect (kept_call c.in-Some.call.now) (reply_of c.in_ok-reply.reply) (g.O.Object.meaning s.state)) c.as_ref.ensures said in
    only_reply effect (λ call. g.met.O.Object.determined task.object.now call) scripts here id.process (kept_call c.in-Some.call.now) at within id refl
    next.1 answers.0 (reply_of c.in_ok-reply.reply) answers.1)
