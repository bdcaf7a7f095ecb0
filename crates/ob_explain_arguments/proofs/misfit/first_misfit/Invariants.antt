-- The words so far fit.
use Rattle.std.proofs.Common.{map}
use Rattle.ob_explain_arguments.specs.Misfits.{FitsUpTo}
use Rattle.ob_explain_arguments.proofs.misfit.first_misfit.Given as goal

abbrev pub invariant-loop-number : goal.invariant-loop-number
invariant-loop-number l = FitsUpTo l.types (map (λ w. w.now) l.words) l.number
