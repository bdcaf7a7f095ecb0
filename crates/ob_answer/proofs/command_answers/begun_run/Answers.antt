use Rattle.ob_answer.proofs.command_answers.begun_run.Goals as goal

pub returns-in-Record : goal.returns-in-Record
returns-in-Record c = rw c.in-Record.is c.answer_record.ensures

pub returns-in-TreeRecord : goal.returns-in-TreeRecord
returns-in-TreeRecord c = rw c.in-TreeRecord.is c.answer_tree_record.ensures

pub returns-in-RecordWithSteps : goal.returns-in-RecordWithSteps
returns-in-RecordWithSteps c = rw c.in-RecordWithSteps.is c.answer_steps.ensures

pub returns-in-State : goal.returns-in-State
returns-in-State c = rw c.in-State.is c.answer_state.ensures

pub returns-in-Picture : goal.returns-in-Picture
returns-in-Picture c = rw c.in-Picture.is c.answer_picture.ensures

pub returns-in-Explanation : goal.returns-in-Explanation
returns-in-Explanation c = rw c.in-Explanation.is c.explain_run.ensures
