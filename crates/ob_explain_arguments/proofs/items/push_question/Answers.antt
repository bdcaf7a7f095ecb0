use Rattle.ob_explain_arguments.proofs.Pushes.{pushed_three}
use Rattle.ob_explain_arguments.proofs.items.push_question.Goals as goal

pub returns : goal.returns
returns c = pushed_three _ _ _ _ _ _ _ c.in_ok-push_str.ensures.bytes c.in_ok-push_str-2.ensures.bytes c.in_ok-push_str-3.ensures.bytes
