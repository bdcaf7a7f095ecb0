use Rattle.std.proofs.Common.{◌≡◌, ◌-◌, length}
use Rattle.ob_scan.specs.Scanned.{HasGivenSome}
use Rattle.ob_scan.proofs.scanned.scan_on.Given as goal

abbrev pub invariant-loop-token : goal.invariant-loop-token
invariant-loop-token l = record { same_text : l.scanner.text ≡ l.fn.scanner.text; given : HasGivenSome l.scanner }

abbrev pub decreases-loop-token : goal.decreases-loop-token
decreases-loop-token l = length l.scanner.text - l.scanner.at
