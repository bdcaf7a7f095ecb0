use Rattle.std.proofs.Common.{length, ◌-◌}
use Rattle.ob_scan.specs.Scanning.{IsSkipped}
use Rattle.ob_scan.proofs.scanner.skip.Given as goal

abbrev pub invariant-loop-at : goal.invariant-loop-at
invariant-loop-at l = IsSkipped l.text l.start l.at

abbrev pub decreases-loop-at : goal.decreases-loop-at
decreases-loop-at l = length l.text - l.at
