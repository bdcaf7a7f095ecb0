use Rattle.ob_answer.proofs.command_answers.begun_calls.Goals as goal

pub returns-in-Replies : goal.returns-in-Replies
returns-in-Replies c = rw c.in-Replies.is c.answer_seq.ensures

pub returns-in-Told : goal.returns-in-Told
returns-in-Told c = rw c.in-Told.is c.answer_told.ensures

pub returns-in-Explanation : goal.returns-in-Explanation
returns-in-Explanation c = rw c.in-Explanation.is c.explain_calls.ensures

pub returns-in-Traps : goal.returns-in-Traps
returns-in-Traps c = rw c.in-Traps.is c.explain_traps.ensures
