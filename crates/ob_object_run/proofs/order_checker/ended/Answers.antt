use Rattle.std.proofs.Common.{ap, sym, ◌∙◌}
use Rattle.ob_object_run.proofs.order_checker.ended.Goals as goal
use Rattle.wf_history.specs.View.{seen_event, seen_reply}

pub returns-in-End : goal.returns-in-End
returns-in-End c = (seen_reply c.in-End.field-1, sym c.seen.ensures ∙ ap seen_event c.in-End.is)
