-- By what both calls made, that stand there.
use Rattle.std.proofs.Common.{sym, subst, ◌∙◌}
use Rattle.ob_interface.specs.Call.{ObjectCall, Reply}
use Rattle.ob_interface.specs.View.{reply_of}
use Rattle.wf_history.specs.View.{seen_call}
use Rattle.wf_order.proofs.made_calls.did_so.Goals as goal

pub returns : goal.returns
returns g c = λ t after reply effect.
    let effects = g.O.Object.effect c.args.task.now.object.now in
    let before = g.O.Object.meaning c.args.here.now.state in
    let behind = g.O.Object.meaning c.args.behind.now.state in
    let call = seen_call c.args.call in
    let made = c.in-Some.made.now in
    let other = c.in-Some-remembered.other.now in
    let stands = c.in-Some.ensures.1 in
    let stands_behind = c.in-Some-remembered.ensures.1 in
    let here = subst (λ (x : ObjectCall). effects x before (g.O.Object.meaning made.state) (reply_of made.reply)) stands.call_is
    (c.requires.made.each c.in-Some.ensures.0 made stands.at before (sym c.requires.worded ∙ sym stands.words_are)) in
    let there = subst (λ (x : ObjectCall). effects x behind (g.O.Object.meaning other.state) (reply_of other.reply)) stands_behind.call_is
    (c.requires.made.each c.in-Some-remembered.ensures.0 other stands_behind.at behind (sym c.requires.behind ∙ sym stands_behind.words_are)) in
    let one = g.met.O.Object.determined c.args.task.now.object.now call behind after (g.O.Object.meaning other.state) reply (reply_of other.reply) effect there in
    let states = c.in_ok-same.ensures.0 t in
    let replies = c.are_equal_replies.ensures c.if-not-are_equal_replies.false in
    subst (λ (r : Reply). effects call before after r) (replies ∙ sym one.1) (subst (λ (x : g.O.Object.Meaning). effects call before x (reply_of made.reply)) (states ∙ sym one.0) here)
