-- Another call of the procedure replied otherwise there.
use Rattle.std.proofs.Common.{sym, refl, ◌∙◌}
use Rattle.ob_interface.specs.View.{reply_of}
use Rattle.wf_history.specs.View.{seen_call, seen_reply}
use Rattle.wf_order.proofs.made_calls.outcome_by_state.Goals as goal

pub returns-then-not-is_same_reply-clause-outcome : goal.returns-then-not-is_same_reply-clause-outcome
returns-then-not-is_same_reply-clause-outcome g c =
    let before = g.O.Object.meaning c.args.found.now.state in
    let made = c.in-Some.made.now in
    let is = c.in-Some.ensures in
    let own = c.requires.alike (seen_call made.call) is.same before (g.O.Object.meaning made.state) (reply_of made.reply) (c.requires.made.each is.row made is.at before (sym c.requires.worded ∙ sym is.words_are)) in (
      own.0,
      reply_of made.reply,
      own.1,
      seen_reply c.args.known,
      refl,
      λ e. let so = c.is_same_reply.ensures.1 (sym e) in let not = c.if-not-is_same_reply.true in absurd (cc),
    )
