-- The calls so far are submitted.
use Rattle.std.proofs.Common.{◌≡◌, map, take}
use Rattle.ob_desk_floor.specs.Floor.{with_submissions}
use Rattle.ob_desk_floor.specs.Submission.{submission_of}
use Rattle.ob_desk_floor.proofs.floor.submit_all.Given as goal

abbrev pub invariant-loop-script : goal.invariant-loop-script
invariant-loop-script g l = l.machine ≡ with_submissions (g.E.Engine.meaning l.initial.machine.engine) (map submission_of (take l.script-index l.scripts)) l.initial.machine
