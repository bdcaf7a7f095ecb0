use Rattle.std.proofs.Common.{◌≡◌, length, ◌-◌}
use Rattle.ob_scan.specs.Scanners.{HasGiven}
use Rattle.ob_scan.proofs.scanner.scan.Given as goal

abbrev pub invariant-loop-items : goal.invariant-loop-items
invariant-loop-items l = record {
  same_text : l.scanner.text ≡ l.text;
  given : HasGiven l.scanner l.items.items;
}

abbrev pub decreases-loop-items : goal.decreases-loop-items
decreases-loop-items l = length l.text - l.scanner.at
