use Rattle.std.proofs.Common.{◌≡◌, length, map}
use Rattle.ob_grammar.specs.View.{expr_of}
use Rattle.ob_typing.specs.Verdict.{◌>>=◌}
use Rattle.ob_typing.specs.StatementVerdicts.{actuals}
use Rattle.ob_checked.specs.View.{parameter_of}
use Rattle.ob_scopes.specs.Names.{types_in, env_of}
use Rattle.ob_rules.proofs.Passed.{behind_passed, actuals_from}
use Rattle.ob_rules.proofs.statements.actuals.Given as goal

-- what is left completes what is done
abbrev pub invariant-loop-parameter : goal.invariant-loop-parameter
invariant-loop-parameter l =
    actuals (env_of l.scopes) (map (parameter_of (types_in l.scopes)) l.parameters) (map expr_of l.written)
    ≡ ◌>>=◌ (actuals_from (env_of l.scopes) (types_in l.scopes) l.parameters l.written (length l.yielded)) (behind_passed l.checked.items)
