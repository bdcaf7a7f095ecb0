-- Each digit of 0 is 0.
use Rattle.wf_counts.proofs.Digits.{no_digits}
use Rattle.wf_counts.proofs.counts.Counts.none.Goals as goal

pub returns-then-processes-le-DIGITS : goal.returns-then-processes-le-DIGITS
returns-then-processes-le-DIGITS c = no_digits c.args.processes
