use Rattle.std.proofs.Common.{[], length, ap, sym}
use Rattle.ob_scan.specs.Scanners.{ScannedText}
use Rattle.ob_scan.proofs.Looks.{looked_scan, looked_begins}
use Rattle.ob_scan.proofs.scanned.ScannedTokens.new.Goals as goal

pub invariant_of-result : goal.invariant_of-result
invariant_of-result c =
    looked_scan _ _ _ _ c.look-here.ensures (ap (λ (s : ScannedText). length s.text) (sym c.in_ok-scanner.ensures.begun))
    (record { tokens = []; given = c.in_ok-scanner.ensures.given })

pub returns-clause-begins : goal.returns-clause-begins
returns-clause-begins c =
    looked_begins _ _ _ _ (ap (λ (s : ScannedText). s.text) c.in_ok-scanner.ensures.begun) c.look-here.ensures c.in_ok-scanner.ensures.given
