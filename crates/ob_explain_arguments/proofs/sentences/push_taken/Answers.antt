use Rattle.ob_explain_arguments.proofs.Pushes.{pushed_four}
use Rattle.ob_explain_arguments.proofs.sentences.push_taken.Goals as goal

pub returns : goal.returns
returns c =
    pushed_four _ _ _ _ _ _ _ _ _ c.in_ok-push_str.ensures.bytes c.in_ok-push_number.ensures.ok c.in_ok-push_str-2.ensures.bytes
    c.in_ok-push_types.ensures
