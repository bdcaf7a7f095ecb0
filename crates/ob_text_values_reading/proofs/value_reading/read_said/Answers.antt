use Rattle.ob_text_values_reading.proofs.value_reading.read_said.Goals as goal

pub returns-else-may_have_comments-clause-values : goal.returns-else-may_have_comments-clause-values
returns-else-may_have_comments-clause-values c = rw (c.may_have_comments.ensures c.if-may_have_comments.false) c.read_lines.ensures.values

pub returns-else-may_have_comments-clause-fault : goal.returns-else-may_have_comments-clause-fault
returns-else-may_have_comments-clause-fault c = rw (c.may_have_comments.ensures c.if-may_have_comments.false) c.read_lines.ensures.fault
