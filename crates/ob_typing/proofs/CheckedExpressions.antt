-- An expression has one verdict.
use Rattle.std.proofs.Common.{◌≡◌, refl, Option}
use Rattle.ob_grammar.specs.Tree.{Expr, Operands, Selectors}
use Rattle.ob_interface.specs.declared.scalar.Scalar.{Scalar}
use Rattle.ob_interface.specs.declared.scalar.ScalarType.{ScalarType}
use Rattle.ob_typing.specs.declared.rule.BrokenRule.{BrokenRule}
use Rattle.ob_typing.specs.Program
use Rattle.ob_typing.specs.Program.{DataType, Expression, Operations}
use Rattle.ob_typing.specs.Scopes.{Environment}
use Rattle.ob_typing.specs.Expressions
use Rattle.ob_typing.specs.Expressions.{Use, InStatement, HasType, AreOperands, Selects}
use Rattle.ob_typing.specs.ExpressionFaults
use Rattle.ob_typing.specs.ExpressionFaults.{broken, ExpressionFails, OperandsFail, SelectorsFail}
use Rattle.ob_typing.specs.Verdict.{Right, Wrong}
use Rattle.ob_typing.specs.ExpressionVerdicts.{expression, operands, selecting}

module _ (env : Environment) where
  -- what the judgements say is the verdict
  mutual
    pub expression_typed : {use' : Use} {e : Expr} {t : ScalarType} {c : Expression} {v : Option Scalar} →
        HasType env use' e t c v → expression env e use' ≡ Right (record { type = t; code = c; value = v })
    expression_typed Expressions.number = refl
    expression_typed (Expressions.constant h) = rw h refl
    expression_typed (Expressions.variable (Expressions.of_slot h k)) = rw h (rw (selectors_typed k) refl)
    expression_typed (Expressions.parens h) = expression_typed h
    expression_typed (Expressions.not h) = rw (expression_typed h) refl
    expression_typed (Expressions.product h k) = rw (expression_typed h) (rw (operands_typed k) refl)
    expression_typed (Expressions.sum h fits signs k) =
        rw (expression_typed h) (rw fits (rw signs (rw (operands_typed k) refl)))
    expression_typed (Expressions.comparison h k o fits) =
        rw (expression_typed h) (rw (expression_typed k) (rw o (rw fits refl)))

    operands_typed : {use' : Use} {t : ScalarType} {v w : Option Scalar} {rest : Operands} {operations : Operations} →
        AreOperands env use' t v rest operations w → operands env rest use' t v ≡ Right (record { operations = operations; value = w })
    operands_typed Expressions.no_operand = refl
    operands_typed (Expressions.operand o h fits goes k) =
        rw o (rw (expression_typed h) (rw fits (rw goes (rw (operands_typed k) refl))))

    pub selectors_typed : {s t : DataType} {rest : Selectors} {path : Program.Selectors} →
        Selects env s rest t path → selecting env rest InStatement s ≡ Right (record { type = t; selectors = path })
    selectors_typed Expressions.itself = refl
    selectors_typed (Expressions.field r f k) = rw r (rw f (rw (selectors_typed k) refl))
    selectors_typed (Expressions.index h a k) = rw (expression_typed h) (rw a (rw (selectors_typed k) refl))

  -- and so is the rule that is broken first
  mutual
    pub expression_fails : {use' : Use} {e : Expr} {fault : BrokenRule} →
        ExpressionFails env use' e fault → expression env e use' ≡ Wrong fault
    expression_fails (ExpressionFaults.name h) = rw h refl
    expression_fails (ExpressionFaults.selectors h s k) = rw h (rw s (rw (selectors_fail k) refl))
    expression_fails (ExpressionFaults.structured (Expressions.of_slot h k) s) = rw h (rw (selectors_typed k) (rw s refl))
    expression_fails (ExpressionFaults.within_parens h) = expression_fails h
    expression_fails (ExpressionFaults.within_not h) = rw (expression_fails h) refl
    expression_fails (ExpressionFaults.not h) = rw (expression_typed h) refl
    expression_fails (ExpressionFaults.first_factor h) = rw (expression_fails h) refl
    expression_fails (ExpressionFaults.other_factors h k) = rw (expression_typed h) (rw (operands_fail k) refl)
    expression_fails (ExpressionFaults.first_term h) = rw (expression_fails h) refl
    expression_fails (ExpressionFaults.sign h fits) = rw (expression_typed h) (rw fits refl)
    expression_fails (ExpressionFaults.sign_traps h fits signs) = rw (expression_typed h) (rw fits (rw signs refl))
    expression_fails (ExpressionFaults.other_terms h fits signs k) =
        rw (expression_typed h) (rw fits (rw signs (rw (operands_fail k) refl)))
    expression_fails (ExpressionFaults.left h) = rw (expression_fails h) refl
    expression_fails (ExpressionFaults.right h k) = rw (expression_typed h) (rw (expression_fails k) refl)
    expression_fails (ExpressionFaults.comparison h k o fits) =
        rw (expression_typed h) (rw (expression_typed k) (rw o (rw fits refl)))

    operands_fail : {use' : Use} {t : ScalarType} {v : Option Scalar} {rest : Operands} {fault : BrokenRule} →
        OperandsFail env use' t v rest fault → operands env rest use' t v ≡ Wrong fault
    operands_fail (ExpressionFaults.operand o h) = rw o (rw (expression_fails h) refl)
    operands_fail (ExpressionFaults.operator o h fits) = rw o (rw (expression_typed h) (rw fits refl))
    operands_fail (ExpressionFaults.operator_traps o h fits goes) = rw o (rw (expression_typed h) (rw fits (rw goes refl)))
    operands_fail (ExpressionFaults.others o h fits goes k) =
        rw o (rw (expression_typed h) (rw fits (rw goes (rw (operands_fail k) refl))))

    pub selectors_fail : {use' : Use} {s : DataType} {rest : Selectors} {fault : BrokenRule} →
        SelectorsFail env use' s rest fault → selecting env rest use' s ≡ Wrong fault
    selectors_fail (ExpressionFaults.no_record r) = rw r refl
    selectors_fail (ExpressionFaults.no_array h a) = rw (expression_typed h) (rw a refl)
    selectors_fail (ExpressionFaults.no_field r f) = rw r (rw f refl)
    selectors_fail (ExpressionFaults.within_index h) = rw (expression_fails h) refl
    selectors_fail (ExpressionFaults.index h) = rw (expression_typed h) refl
    selectors_fail (ExpressionFaults.behind_field r f k) = rw r (rw f (rw (selectors_fail k) refl))
    selectors_fail (ExpressionFaults.behind_index h a k) = rw (expression_typed h) (rw a (rw (selectors_fail k) refl))
