use Rattle.ob_explain_arguments.proofs.Pushes.{begun_with}
use Rattle.ob_explain_arguments.proofs.sentences.count_sentence.Goals as goal

pub returns : goal.returns
returns c =
    begun_with _ _ _ _ _ _ _ _ _ c.in_ok-sentence.ensures.ok c.in_ok-push_number.ensures.ok c.in_ok-push_str.ensures.bytes c.values_noun.ensures
    c.in_ok-push_taken.ensures
