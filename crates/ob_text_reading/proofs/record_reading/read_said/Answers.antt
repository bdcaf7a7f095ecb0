use Rattle.ob_text_reading.proofs.record_reading.read_said.Goals as goal

pub returns-else-may_have_comments-clause-record : goal.returns-else-may_have_comments-clause-record
returns-else-may_have_comments-clause-record c = rw (c.may_have_comments.ensures c.if-may_have_comments.false) c.read_lines.ensures.record

pub returns-else-may_have_comments-clause-fault : goal.returns-else-may_have_comments-clause-fault
returns-else-may_have_comments-clause-fault c = rw (c.may_have_comments.ensures c.if-may_have_comments.false) c.read_lines.ensures.fault
