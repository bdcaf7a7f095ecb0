use Rattle.ob_answer_searches.proofs.whole_answers.answer_whole_outcomes.Goals as goal

pub returns : goal.returns
returns g c = rw (← c.in_ok-bounds.ensures.always, ← c.in_ok-bounds.ensures.most) c.answer_wholes.ensures
