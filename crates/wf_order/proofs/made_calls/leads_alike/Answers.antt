-- By what the calls made that stand there.
use Rattle.std.proofs.Common.{◌≡◌, sym, subst, ◌∙◌, option_map}
use Rattle.std.specs.Prelude.{IfSome}
use Rattle.ob_interface.specs.Call.{ObjectCall, Reply}
use Rattle.ob_interface.specs.View.{reply_of}
use Rattle.wf_history.specs.View.{seen_call, seen_reply}
use Rattle.wf_order.proofs.LeftOut.{same_some}
use Rattle.wf_order.proofs.made_calls.leads_alike.Goals as goal

pub returns-then-not-is_known : goal.returns-then-not-is_known
returns-then-not-is_known g c = λ t after reply there fits.
    let effect = g.O.Object.effect c.args.task.now.object.now in
    let before = g.O.Object.meaning c.args.behind.now.state in
    let call = seen_call c.args.question.call in
    let made = c.in-Some.after.now in
    let stands = c.in-Some.ensures.1 in
    let own = subst (λ (x : ObjectCall). effect x before (g.O.Object.meaning made.state) (reply_of made.reply)) stands.call_is
    (c.requires.made.each c.in-Some.ensures.0 made stands.at before (sym c.requires.behind ∙ sym stands.words_are)) in
    let one = g.met.O.Object.determined c.args.task.now.object.now call before after (g.O.Object.meaning made.state) reply (reply_of made.reply) there own in
    let so = c.is_known.ensures.1 (subst (λ (r : Reply). IfSome (option_map seen_reply c.args.question.known) (λ k. k ≡ r)) one.1 fits) in
    let f = c.if-not-is_known.true in
    absurd (cc)

pub returns : goal.returns
returns g c = λ t.
    let effects = g.O.Object.effect c.args.task.now.object.now in
    let before = g.O.Object.meaning c.args.here.now.state in
    let behind = g.O.Object.meaning c.args.behind.now.state in
    let call = seen_call c.args.question.call in
    let after = c.in-Some.after.now in
    let other = c.in-Some-remembered.other.now in
    let stands = c.in-Some.ensures.1 in
    let stands_here = c.in-Some-remembered.ensures.1 in
    let there = subst (λ (x : ObjectCall). effects x behind (g.O.Object.meaning after.state) (reply_of after.reply)) stands.call_is
    (c.requires.made.each c.in-Some.ensures.0 after stands.at behind (sym c.requires.behind ∙ sym stands.words_are)) in
    let here = subst (λ (x : ObjectCall). effects x before (g.O.Object.meaning other.state) (reply_of other.reply)) stands_here.call_is
    (c.requires.made.each c.in-Some-remembered.ensures.0 other stands_here.at before (sym c.requires.worded ∙ sym stands_here.words_are)) in
    same_some (effects call) (g.met.O.Object.determined c.args.task.now.object.now call) before behind (option_map seen_reply c.args.question.known) (g.O.Object.meaning after.state) (g.O.Object.meaning other.state)
    (reply_of after.reply, there, c.is_known.ensures.0 c.if-not-is_known.false) (reply_of other.reply, here, c.is_known-2.ensures.0 c.if-not-is_known-2.false) (c.in_ok-same.ensures.0 t)
