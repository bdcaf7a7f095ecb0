use Rattle.std.proofs.Common.{◌∙◌, ap, sym}
use Rattle.ob_object_calls.proofs.overtaking.ended.Goals as goal
use Rattle.wf_history.specs.View.{seen_event, seen_reply}

pub returns-then-contains : goal.returns-then-contains
returns-then-contains c = (sym c.contains.ensures ∙ c.if-contains.true, (seen_reply c.in-End.field-1, sym c.seen.ensures ∙ ap seen_event c.in-End.is))
