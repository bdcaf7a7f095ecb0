use Rattle.std.proofs.Common.{◌≡◌, map, take}
use Rattle.ob_desk_floor.specs.Submission.{submission_of}
use Rattle.ob_desk_floor.proofs.submission.copied_submissions.Given as goal

abbrev pub invariant-loop-submission : goal.invariant-loop-submission
invariant-loop-submission l = map submission_of l.copies.items ≡ map submission_of (take l.submission-index l.submissions)
