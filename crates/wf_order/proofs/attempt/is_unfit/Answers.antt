-- The reply is another one.
use Rattle.std.proofs.Common.{refl, ap, sym, ◌∙◌, get_or, Option, option_map}
use Rattle.ob_interface.specs.Call.{Reply}
use Rattle.wf_history.specs.View.{seen_reply}
use Rattle.wf_order.specs.declared.rows.Ended.{Ended}
use Rattle.wf_order.specs.Search.{found_in}
use Rattle.wf_order.proofs.Stepping.{none_agrees}
use Rattle.wf_order.proofs.attempt.is_unfit.Goals as goal

pub returns-clause-unfit : goal.returns-clause-unfit
returns-clause-unfit g c = λ history at yes.
    let next = c.args.next.now in
    let here = found_in g.O.Object.meaning c.args.here.now.found.now in
    let effect = g.O.Object.effect c.args.task.now.object.now in
    let end = c.in-Some.end in
    let asked = c.in_ok-so.ensures.so in
    let reply : Option Ended → Option Reply = λ o. option_map seen_reply (option_map (λ (e : Ended). e.reply) o) in
    none_agrees effect (λ call. g.met.O.Object.determined c.args.task.now.object.now call) history c.args.task.now.rows.now here at.0 c.args.here.now.limit at.1 next.process (get_or here.counts next.process 0) refl next.begun c.requires.next.begun
    (asked.after, asked.answer, asked.effect, seen_reply end.reply, ap reply (c.requires.next.ended ∙ c.in-Some.is), λ e. let t = asked.same.1 (sym e) in absurd (cc))
