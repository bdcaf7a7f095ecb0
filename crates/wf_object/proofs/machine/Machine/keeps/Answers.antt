use Rattle.wf_object.proofs.machine.Machine.keeps.Goals as goal

pub returns-clause-sound : goal.returns-clause-sound
returns-clause-sound g c = rw (← c.self.view_is) c.self.invariant.sound

pub returns-clause-committed : goal.returns-clause-committed
returns-clause-committed g c = rw (← c.self.view_is) c.self.invariant.committed

pub returns-clause-helped : goal.returns-clause-helped
returns-clause-helped g c = rw (← c.self.view_is) c.self.invariant.helped

pub returns-clause-standing : goal.returns-clause-standing
returns-clause-standing g c = rw (← c.self.view_is) c.self.invariant.standing

pub returns-clause-answered : goal.returns-clause-answered
returns-clause-answered g c = rw (← c.self.view_is) c.self.invariant.answered
