-- An operand and a variable where their parts are right.
use Rattle.std.proofs.Common.{◌≡◌, ℕ, refl, Option, Some, None, true, ap}
use Rattle.ob_grammar.specs.declared.tree.Operator.{Operator}
use Rattle.ob_grammar.specs.Tree
use Rattle.ob_typing.specs.declared.operator.BinaryOperator.{BinaryOperator}
use Rattle.ob_interface.specs.declared.scalar.Scalar.{Scalar}
use Rattle.ob_interface.specs.declared.scalar.ScalarType.{ScalarType}
use Rattle.ob_typing.specs.Program as Programs
use Rattle.ob_typing.specs.Arithmetic.{Gives, takes_both, operator_of}
use Rattle.ob_typing.specs.Scopes.{Environment, AVariable}
use Rattle.ob_typing.specs.Expressions.{Use, behind, value_behind}
use Rattle.ob_typing.specs.Verdict.{Right, ◌>>=◌}
use Rattle.ob_typing.specs.ExpressionVerdicts as Verdicts
use Rattle.ob_typing.specs.ExpressionVerdicts.{expression, operands, selecting, named_value, sign_place}
use Rattle.ob_scopes.specs.SimpleTypes.{simple_type}

-- one operator and its operand
module _ (env : Environment) (use' : Use) (t : ScalarType) (v : Option Scalar) (operator : Operator) (place : ℕ) (e : Tree.Expr) (rest : Tree.Operands) where
  pub operand_right : (o : BinaryOperator) → operator_of operator ≡ Some o → (x : Verdicts.Typed) → expression env e (behind use' o v) ≡ Right x →
      (w : Option Scalar) → takes_both o t x.type ≡ true → value_behind o v x.value ≡ Gives w →
      operands env (Tree.operand operator place e rest) use' t v
      ≡ ◌>>=◌ (operands env rest use' t w) (λ y. Right (record { operations = Programs.operation o x.code y.operations; value = y.value }))
  operand_right o is x h w fits g = rw is (rw h (rw fits (rw g refl)))

-- a variable or a part of it that is not structured
module _ (use' : Use) (place : ℕ) (slot : Programs.Slot) (s : Programs.DataType) (selectors : Programs.Selectors) (t : ScalarType) where
  pub variable_right : (of_type : Programs.DataType) → Some t ≡ simple_type of_type →
      named_value use' place (AVariable slot s) (record { type = of_type; selectors = selectors })
      ≡ Right (record { type = t; code = Programs.ValueOf t (Programs.Designated slot selectors); value = None })
  variable_right (Programs.Simple u) h =
      let is : u ≡ t = cc in
      ap (λ x. Right (record { type = x; code = Programs.ValueOf x (Programs.Designated slot selectors); value = None })) is
  variable_right (Programs.Array p n e) h = absurd cc
  variable_right (Programs.Record p fs) h = absurd cc
