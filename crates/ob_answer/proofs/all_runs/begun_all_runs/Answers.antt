use Rattle.ob_answer.proofs.all_runs.begun_all_runs.Goals as goal

pub returns-in-Told : goal.returns-in-Told
returns-in-Told g c = rw c.in-Told.is c.answer_outcomes.ensures

pub returns-in-Whole : goal.returns-in-Whole
returns-in-Whole g c = rw c.in-Whole.is c.answer_whole_outcomes.ensures

pub returns-in-Explained : goal.returns-in-Explained
returns-in-Explained g c = rw c.in-Explained.is c.explain_always.ensures
