use Rattle.ob_answer_searches.proofs.outcomes_answers.answer_outcomes.Goals as goal

pub returns : goal.returns
returns g c = rw (← c.in_ok-bounds.ensures.always, ← c.in_ok-bounds.ensures.most) c.answer_replies.ensures
