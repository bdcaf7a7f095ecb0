use Rattle.std.proofs.Common.{None}
use Rattle.ob_scan.proofs.Scanners.{given_start, scanned_start}
use Rattle.ob_scan.proofs.scanner.Scanner.new.Goals as goal

pub invariant_of-result : goal.invariant_of-result
invariant_of-result c = scanned_start c.args.text.now

pub returns-clause-given : goal.returns-clause-given
returns-clause-given c = given_start c.args.text.now None
