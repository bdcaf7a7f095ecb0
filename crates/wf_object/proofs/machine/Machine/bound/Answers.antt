use Rattle.wf_object.proofs.machine.Machine.bound.Goals as goal

pub bound_of-requires : goal.bound_of-requires
bound_of-requires g c = c.self.invariant.sound.sized
