-- One round more than the calls that are left had.
use Rattle.std.proofs.Common.{vec_len}
use Rattle.wf_needed.proofs.needed.thinned.Given as goal
use Rattle.wf_needed.specs.Listed.{IsOpenCall, IsThinner}
use Rattle.wf_needed.specs.Needed.{LeavesOut}

abbrev pub invariant-loop-alloc : goal.invariant-loop-alloc
invariant-loop-alloc g l =
    LeavesOut IsOpenCall l.fn.all.items l.before.items
    × IsThinner (g.O.Object.effect l.object) (g.O.Object.opening l.object) l.before.items l.kept.items

abbrev pub decreases-loop-alloc : goal.decreases-loop-alloc
decreases-loop-alloc g l = vec_len l.before
