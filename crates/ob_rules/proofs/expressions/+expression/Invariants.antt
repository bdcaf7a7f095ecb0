use Rattle.std.proofs.Common.{◌≡◌, drop}
use Rattle.ob_grammar.specs.View.{operands_in, selectors_in}
use Rattle.ob_typing.specs.Verdict.{◌>>=◌}
use Rattle.ob_typing.specs.ExpressionVerdicts.{operands, selecting}
use Rattle.ob_checked.specs.Types.{type_in}
use Rattle.ob_scopes.specs.Usages.{use_of}
use Rattle.ob_scopes.specs.Names.{types_in, env_of}
use Rattle.ob_rules.proofs.Chains.{resumed, walked}
use Rattle.ob_rules.proofs.expressions.+expression.Given as goal

-- what is left completes what is done
abbrev pub invariant-operands-loop-o : goal.invariant-operands-loop-o
invariant-operands-loop-o l =
    operands (env_of l.scopes) (operands_in l.operands) (use_of l.usage) l.data_type l.fn.first
    ≡ ◌>>=◌ (operands (env_of l.scopes) (operands_in (drop l.o-index l.operands)) (use_of l.usage) l.data_type l.value) (resumed l.operations.items)

abbrev pub invariant-selecting-loop-selector : goal.invariant-selecting-loop-selector
invariant-selecting-loop-selector l =
    selecting (env_of l.scopes) (selectors_in l.selectors) (use_of l.usage) (type_in (types_in l.scopes) l.fn.whole)
    ≡ ◌>>=◌ (selecting (env_of l.scopes) (selectors_in (drop l.selector-index l.selectors)) (use_of l.usage) (type_in (types_in l.scopes) l.data_type)) (walked l.selected.items)
