use Rattle.std.proofs.Common.{◌≡◌, min, take}
use Rattle.ob_scan.specs.Spelling.{number_value}
use Rattle.ob_scan.proofs.lexeme.is_too_large.Given as goal

abbrev pub invariant-loop-digit : goal.invariant-loop-digit
invariant-loop-digit l = l.value ≡ min (number_value (take l.digit-index l.digits)) 2147483648
