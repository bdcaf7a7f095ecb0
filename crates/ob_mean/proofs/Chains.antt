-- The value of a chain of operators and operands.
use Rattle.std.proofs.Common.{◌≡◌, ap, sym, ◌∙◌, Box, Vec, List}
use Rattle.std.specs.declared.alloc.Global.{Global}
use Rattle.ob_interface.specs.declared.scalar.Scalar.{Scalar}
use Rattle.ob_typing.specs.Arithmetic.{Gives, ◌>>=◌}
use Rattle.ob_meaning.specs.ByPositionStore.{Store}
use Rattle.ob_meaning.specs.ByPositionEvaluation.{value_of, value_behind}
use Rattle.ob_checked.specs.declared.program.Expression.{Expression}
use Rattle.ob_checked.specs.declared.program.Expression.TheVariants as Expressions
use Rattle.ob_checked.specs.declared.program.Operation.{Operation}
use Rattle.ob_checked.specs.View.{expression_of, operations_in}
use Rattle.ob_checked.proofs.Rows.{expression_of-computed}

-- where the first operand gives x, the operators and operands behind it give the value of all
pub chain_begins : (store : Store) (e f : Expression) (first : Box Expression Global) (rest : Vec Operation Global) (x : Scalar) (operations : List Operation) →
    e ≡ Expressions.Computed first rest → Gives x ≡ value_of store (expression_of f) → f ≡ first.value → operations ≡ rest.items →
    value_behind store x (operations_in operations) ≡ value_of store (expression_of e)
chain_begins store e f first rest x operations is gives same items =
    ap (λ os. value_behind store x (operations_in os)) items
    ∙ ap (λ v. ◌>>=◌ v (λ y. value_behind store y (operations_in rest.items))) (gives ∙ ap (λ d. value_of store (expression_of d)) same)
    ∙ sym (ap (value_of store) (ap expression_of is ∙ expression_of-computed first rest))
