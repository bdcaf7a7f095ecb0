-- The call stands there.
use Rattle.std.proofs.Common.{sym, subst, ◌∙◌}
use Rattle.ob_interface.specs.Call.{ObjectCall}
use Rattle.ob_interface.specs.View.{reply_of}
use Rattle.wf_order.proofs.made_calls.row_with.Goals as goal

pub returns-in-Some-clause-there : goal.returns-in-Some-clause-there
returns-in-Some-clause-there g c =
    let effect = g.O.Object.effect c.args.task.now.object.now in
    let before = g.O.Object.meaning c.args.found.now.state in
    let made = c.in-Some._made.now in
    let is = c.in-Some.ensures in
    record {
      made = made;
      at = is.at;
      effect = subst (λ (x : ObjectCall). effect x before (g.O.Object.meaning made.state) (reply_of made.reply)) is.call_is
          (c.requires.made.each c.row_of-row.result made is.at before (sym c.requires.worded ∙ sym c.as_slice-words.ensures ∙ sym is.words_are));
    }
