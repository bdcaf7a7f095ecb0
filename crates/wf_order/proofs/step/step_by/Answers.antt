-- The rows show which call is next.
use Rattle.std.proofs.Common.{ap, refl, subst, ◌≡◌, ◌∙◌, sym, get_or, Option, option_map, arith}
use Rattle.std.specs.Prelude.{slice_get}
use Rattle.std.proofs.lemmas.Result.{IfOk-weaker}
use Rattle.wf_history.specs.declared.seen_event.SeenReply.{SeenReply}
use Rattle.wf_history.specs.View.{seen_call, seen_reply}
use Rattle.wf_order.specs.declared.rows.Ended.{Ended}
use Rattle.wf_order.specs.Rows.{ended_rows, row_of}
use Rattle.wf_order.specs.Rules.{IsOutcome}
use Rattle.wf_order.specs.Search.{found_in}
use Rattle.wf_order.proofs.Stepping.{none_before, stepped}
use Rattle.wf_order.proofs.step.step_by.Goals.{in-Some, in-None}
use Rattle.wf_order.proofs.step.step_by.Goals as goal

pub returns-then-next-here-clause-stepped : goal.returns-then-next-here-clause-stepped
returns-then-next-here-clause-stepped g c = λ history at.
    let next = c.args.next.now in
    let here = found_in g.O.Object.meaning c.args.here.now.found.now in
    none_before (g.O.Object.effect c.args.task.now.object.now) (λ call. g.met.O.Object.determined c.args.task.now.object.now call) history c.args.task.now.rows.now
    here at.0 c.args.here.now.limit at.1 next.process (get_or here.counts next.process 0) refl next.begun c.requires.next.begun c.if-next-here.true

pub returns-clause-stepped : goal.returns-clause-stepped
returns-clause-stepped g c = λ history at.
    let next = c.args.next.now in
    let here = found_in g.O.Object.meaning c.args.here.now.found.now in
    let effect = g.O.Object.effect c.args.task.now.object.now in
    let own : Option Ended → Option SeenReply = option_map (λ (e : Ended). e.reply) in
    let known : c.match-next.known ≡ own next.ended = elim c.match-next.branch [
      | in-Some w ↦ w.known-is ∙ ap own (sym w.in-Some.is)
      | in-None w ↦ w.known-is ∙ ap own (sym w.in-None.is)
    ] in
    let row : c.match-next.known ≡ own (slice_get (row_of (ended_rows c.args.task.now.rows.now) next.process) (get_or here.counts next.process 0)) = known ∙ ap own (sym c.requires.next.ended) in
    let f = c.if-next-here.false in
    IfOk-weaker c.outcome.result _ _
    (λ o h. stepped effect (λ call. g.met.O.Object.determined c.args.task.now.object.now call) history c.args.task.now.rows.now here at.0 c.args.here.now.limit at.1 next.process (get_or here.counts next.process 0) refl next.begun
    c.requires.next.begun g.O.Object.meaning o c.requires.next.within (omega (arith, f))
    (subst (λ (k : Option SeenReply). IsOutcome (effect (seen_call next.begun.call)) here.state (option_map seen_reply k) (option_map g.O.Object.meaning o)) row h))
    c.outcome.ensures.outcome
