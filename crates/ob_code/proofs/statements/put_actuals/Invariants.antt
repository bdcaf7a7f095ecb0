use Rattle.std.proofs.Common.{◌≡◌, length, drop, map}
use Rattle.ob_code_scheme.specs.Scheme.{actuals_at}
use Rattle.ob_checked.specs.View.{actual_of}
use Rattle.ob_code.specs.Growing.{grown}
use Rattle.ob_code.specs.Scoped.{globals_in, own_in}
use Rattle.ob_code.proofs.statements.put_actuals.Given as goal

-- the code so far with that of the actuals that are left
abbrev pub invariant-loop-actual : goal.invariant-loop-actual
invariant-loop-actual l =
    grown l.code (actuals_at (globals_in l.scopes) (own_in l.scopes) (length l.code.instructions) (map actual_of (drop l.actual-index l.actuals)))
    ≡ grown l.initial.code (actuals_at (globals_in l.scopes) (own_in l.scopes) (length l.initial.code.instructions) (map actual_of l.actuals))
