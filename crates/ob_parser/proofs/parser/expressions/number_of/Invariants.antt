use Rattle.std.proofs.Common.{◌≡◌, take}
use Rattle.ob_scan.specs.Spelling.{number_value}
use Rattle.ob_parser.proofs.parser.expressions.number_of.Given as goal

abbrev pub invariant-loop-digit : goal.invariant-loop-digit
invariant-loop-digit l = l.value ≡ number_value (take l.digit-index l.digits)
