use Rattle.ob_object_search.proofs.searching_parts.named_parts.Goals as goal

pub returns-in-Err-Short-clause-fault : goal.returns-in-Err-Short-clause-fault
returns-in-Err-Short-clause-fault c = (c.in-Err-Short.id, rw c.in-Err-Short.field-0-is at c.in-Err-Short.ensures.fault, c.named.ensures)
