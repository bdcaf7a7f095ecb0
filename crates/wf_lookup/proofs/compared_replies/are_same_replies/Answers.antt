-- Lists of values are the same where they are equal.
use Rattle.std.proofs.Common.{ap, sym, ◌∙◌}
use Rattle.ob_interface.specs.Call.{Answers}
use Rattle.wf_history.specs.View.{seen_reply}
use Rattle.wf_lookup.proofs.compared_replies.are_same_replies.Goals as goal

pub returns-in-Done-Done : goal.returns-in-Done-Done
returns-in-Done-Done c = λ t. ap seen_reply c.in-Done-Done.is-0 ∙ ap Answers (c.are_same.ensures t) ∙ sym (ap seen_reply c.in-Done-Done.is-1)
