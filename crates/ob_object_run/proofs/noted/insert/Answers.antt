use Rattle.ob_object_run.proofs.noted.insert.Goals as goal

pub returns : goal.returns
returns c = c.in_ok-insert.ensures.updates.0
