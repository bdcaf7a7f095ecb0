use Rattle.std.proofs.Common.{arith}
use Rattle.ob_scan.proofs.lexeme.is_too_large.Goals as goal

pub overflow_mul-value : goal.overflow_mul-value
overflow_mul-value c = omega arith
