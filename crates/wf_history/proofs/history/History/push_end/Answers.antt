use Rattle.std.proofs.Common.{◌≡◌, ap, sym, ◌∙◌}
use Rattle.ob_interface.specs.Call.{Answers, Trapped}
use Rattle.wf_history.specs.History.{End}
use Rattle.wf_history.specs.View.{event_of, kept_reply}
use Rattle.wf_history.proofs.history.History.push_end.Goals as goal

pub push-requires : goal.push-requires
push-requires c =
    let id = c.in-Some.ensures.same in
    let same : event_of c.done.result ≡ End c.args.id (kept_reply c.args.reply) =
    c.done.ensures ∙ ap (λ i. End i (Answers c.in-Done.values.items)) id ∙ ap (λ r. End c.args.id (kept_reply r)) (sym c.in-Done.is) in
    rw same c.requires

pub push-requires-in-Trap : goal.push-requires-in-Trap
push-requires-in-Trap c =
    let id = c.in-Some.ensures.same in
    let same : event_of c.trapped.result ≡ End c.args.id (kept_reply c.args.reply) =
    c.trapped.ensures ∙ ap (λ i. End i (Trapped c.in-Trap.number)) id ∙ ap (λ r. End c.args.id (kept_reply r)) (sym c.in-Trap.is) in
    rw same c.requires
