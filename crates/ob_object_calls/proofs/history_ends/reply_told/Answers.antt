use Rattle.std.proofs.Common.{◌≡◌, ◌∙◌, ap, sym}
use Rattle.ob_interface.specs.Call.{ObjectCall, Reply}
use Rattle.ob_object_calls.proofs.SameNames.{same_false, same_true}
use Rattle.ob_object_calls.proofs.history_ends.reply_told.Goals as goal
use Rattle.wf_history.specs.History.{End, Event}
use Rattle.wf_history.specs.View.{seen_event, seen_reply}
use Rattle.wf_history.specs.declared.event.CallId.{CallId}

same_name : (a b : CallId) (reply other : Reply) → ◌≡◌ {A = Event ObjectCall Reply} (End a reply) (End b other) → a ≡ b
same_name a b reply other e = cc

pub returns-then-is_same : goal.returns-then-is_same
returns-then-is_same c =
    sym c.seen.ensures ∙ ap seen_event c.in-End.is ∙ ap (λ (i : CallId). End i (seen_reply c.in-End.reply)) (same_true c.in-End.other c.args.id (sym c.is_same.ensures ∙ c.if-is_same.true))

pub returns-else-is_same : goal.returns-else-is_same
returns-else-is_same c =
    λ reply e. same_false c.in-End.other c.args.id (sym c.is_same.ensures ∙ c.if-is_same.false)
    (same_name c.in-End.other c.args.id (seen_reply c.in-End.reply) reply (sym (sym c.seen.ensures ∙ ap seen_event c.in-End.is) ∙ e))
