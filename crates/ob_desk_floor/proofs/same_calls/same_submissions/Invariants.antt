use Rattle.std.proofs.Common.{◌≡◌, map, take}
use Rattle.ob_desk_floor.specs.Submission.{submission_of}
use Rattle.ob_desk_floor.proofs.same_calls.same_submissions.Given as goal

abbrev pub invariant-loop-i : goal.invariant-loop-i
invariant-loop-i l = map submission_of (take l.i l.submissions) ≡ map submission_of (take l.i l.others)
