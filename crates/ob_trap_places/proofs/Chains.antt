-- The value of a chain of operators and operands.
use Rattle.std.proofs.Common.{◌≡◌, ap, sym, ◌∙◌, Box, Vec, List}
use Rattle.std.specs.declared.alloc.Global.{Global}
use Rattle.ob_interface.specs.declared.scalar.Scalar.{Scalar}
use Rattle.ob_checked.specs.declared.program.Expression.{Expression}
use Rattle.ob_checked.specs.declared.program.Expression.TheVariants as Expressions
use Rattle.ob_checked.specs.declared.program.Operation.{Operation}
use Rattle.ob_checked.specs.View.{expression_of, operations_in}
use Rattle.ob_checked.proofs.Rows.{expression_of-computed}
use Rattle.ob_meaning.specs.ByPositionStore.{Store}
use Rattle.ob_meaning.specs.ByPositionEvaluation.{by_position}
use Rattle.ob_trap_places.specs.Site.{Yields, of_part, ◌>>=◌}
use Rattle.ob_trap_places.specs.SitesOverStore.{value_of, value_behind}

-- where the first operand gives x, the value of all is what the operators and operands behind it make of x
pub chain_begins : (store : Store) (e f : Expression) (first : Box Expression Global) (rest : Vec Operation Global) (x : Scalar) (operations : List Operation) →
    e ≡ Expressions.Computed first rest → of_part 0 (value_of by_position store (expression_of f)) ≡ Yields x → f ≡ first.value → operations ≡ rest.items →
    value_of by_position store (expression_of e) ≡ value_behind by_position store 1 x (operations_in operations)
chain_begins store e f first rest x operations is gives same items =
    ap (value_of by_position store) (ap expression_of is ∙ expression_of-computed first rest)
    ∙ ap (λ v. ◌>>=◌ v (λ y. value_behind by_position store 1 y (operations_in rest.items))) (ap (λ d. of_part 0 (value_of by_position store (expression_of d))) (sym same) ∙ gives)
    ∙ ap (λ os. value_behind by_position store 1 x (operations_in os)) (sym items)
