-- An equal call comes sooner, or the reply is another one.
use Rattle.std.proofs.Common.{refl, ap, sym, ◌∙◌, get_or, Option, option_map}
use Rattle.ob_interface.specs.Call.{Reply}
use Rattle.wf_history.specs.View.{seen_reply}
use Rattle.wf_order.specs.declared.rows.Ended.{Ended}
use Rattle.wf_order.specs.Search.{found_in}
use Rattle.wf_order.proofs.Attempts.{behind_answered, none_answered}
use Rattle.wf_order.proofs.Replacing.{process_behind}
use Rattle.wf_order.proofs.Stepping.{none_agrees}
use Rattle.wf_order.proofs.Taken.{taken_is, within_is}
use Rattle.wf_order.proofs.attempt.is_dropped.Goals as goal

pub returns-then-is_sooner : goal.returns-then-is_sooner
returns-then-is_sooner g c = λ history found at yes.
    let next = c.args.next.now in
    let here = found_in g.O.Object.meaning c.args.here.now.found.now in
    let counts = here.counts in
    let p = c.args.tried.now.process in
    let is = taken_is c.deref.result.now counts p c.in-Some-get.count.now c.in-Some-get.ensures.lookup.0 c.in-Some-get.ensures.lookup.1 c.deref.ensures in
    let within = within_is c.deref.result.now counts p c.in-Some-get.ensures.lookup.0 c.deref.ensures in
    behind_answered (g.O.Object.effect c.args.task.now.object.now) history found here next.process
    (process_behind (g.O.Object.effect c.args.task.now.object.now) history at.0.whole here next.process
    (c.is_sooner.ensures history counts next.process (get_or counts next.process 0) at.0 at.1 (c.requires.next.begun, c.requires.next.ended ∙ c.in-Some.is) within is c.if-is_sooner.true))

pub returns : goal.returns
returns g c = λ history found at yes.
    let next = c.args.next.now in
    let here = found_in g.O.Object.meaning c.args.here.now.found.now in
    let effect = g.O.Object.effect c.args.task.now.object.now in
    let end = c.in-Some.end in
    let other = c.replies_otherwise.ensures yes in
    let reply : Option Ended → Option Reply = λ o. option_map seen_reply (option_map (λ (e : Ended). e.reply) o) in
    none_answered effect history found here next.process
    (none_agrees effect (λ call. g.met.O.Object.determined c.args.task.now.object.now call) history c.args.task.now.rows.now here at.0 c.args.here.now.limit at.1 next.process (get_or here.counts next.process 0) refl next.begun c.requires.next.begun
    (other.after, other.answer, other.effect, seen_reply end.reply, ap reply (c.requires.next.ended ∙ c.in-Some.is), λ e. other.other (sym e)))
