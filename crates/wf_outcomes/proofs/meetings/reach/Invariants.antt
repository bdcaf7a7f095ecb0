-- The marks so far, and one for each step.
use Rattle.std.proofs.Common.{◌+◌, ◌-◌, length}
use Rattle.wf_outcomes.specs.Meetings.{IsMarked}
use Rattle.wf_outcomes.proofs.meetings.reach.Given as goal

abbrev pub invariant-loop-marks : goal.invariant-loop-marks
invariant-loop-marks l = IsMarked l.fn.marks.items l.marks.items l.place

abbrev pub decreases-loop-marks : goal.decreases-loop-marks
decreases-loop-marks l = l.row + 1 - length l.marks.items
