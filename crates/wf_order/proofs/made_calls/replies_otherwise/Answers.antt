-- By the call that stands there.
use Rattle.std.proofs.Common.{sym, subst, ◌∙◌}
use Rattle.ob_interface.specs.Call.{ObjectCall}
use Rattle.ob_interface.specs.View.{reply_of}
use Rattle.wf_history.specs.View.{seen_call}
use Rattle.wf_order.proofs.made_calls.replies_otherwise.Goals as goal

pub returns-then-replies_by_state : goal.returns-then-replies_by_state
returns-then-replies_by_state g c = λ yes.
    let before = g.O.Object.meaning c.args.found.now.state in
    let made = c.in-Some.made.now in
    let is = c.in-Some.ensures in
    let own = c.replies_by_state.ensures c.if-replies_by_state.true (seen_call made.call) is.same before (g.O.Object.meaning made.state) (reply_of made.reply)
    (c.requires.made.each is.row made is.at before (sym c.requires.worded ∙ sym is.words_are)) in
    record {
      after = own.0;
      answer = reply_of made.reply;
      effect = own.1;
      other = λ e. let so = c.is_same_reply.ensures.1 e in let f = c.if-is_same_reply.false in absurd (cc);
    }

pub returns : goal.returns
returns g c = λ yes.
    let effect = g.O.Object.effect c.args.task.now.object.now in
    let before = g.O.Object.meaning c.args.found.now.state in
    let made = c.in-Some-remembered.made.now in
    let is = c.in-Some-remembered.ensures.1 in
    record {
      after = g.O.Object.meaning made.state;
      answer = reply_of made.reply;
      effect = subst (λ (x : ObjectCall). effect x before (g.O.Object.meaning made.state) (reply_of made.reply)) is.call_is
          (c.requires.made.each c.in-Some-remembered.ensures.0 made is.at before (sym c.requires.worded ∙ sym is.words_are));
      other = λ e. let so = c.is_same_reply-2.ensures.1 e in let f = c.if-is_same_reply-2.false in absurd (cc);
    }
