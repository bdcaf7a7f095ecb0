-- The verdict on an expression: by recursion on its tree, in the order of its text.
use Rattle.std.specs.Prelude.{ℕ, Option, Some, None, option_map}
use Rattle.ob_grammar.specs.declared.tree.Sign.{Sign}
use Rattle.ob_grammar.specs.Tree
use Rattle.ob_grammar.specs.Tree.{Expr, Operands, Selectors}
use Rattle.ob_interface.specs.declared.scalar.Scalar.{Scalar}
use Rattle.ob_interface.specs.declared.scalar.Scalar.TheVariants.{Int}
use Rattle.ob_interface.specs.declared.scalar.ScalarType.{ScalarType}
use Rattle.ob_interface.specs.declared.scalar.ScalarType.TheVariants.{Integer, Boolean}
use Rattle.ob_typing.specs.declared.rule.Rule.TheVariants.{UnknownName, WrongKind, TypesDiffer}
use Rattle.ob_typing.specs.Program
use Rattle.ob_typing.specs.Program.{DataType, Simple, Expression, Literal, ValueOf, Complement, Computed, Compared, Operations, no_operation, operation, Designated}
use Rattle.ob_typing.specs.Arithmetic.{type_of, complement, same_scalar_type, takes_both, compares, operator_of, relation_of}
use Rattle.ob_typing.specs.Scopes.{Environment, Meant, AConstant, AVariable, meant, type_meant, is_simple, fields_of, elements_of, field_from}
use Rattle.ob_typing.specs.Expressions.{Use, known, behind, value_behind, with_sign, sign_fits, value_signed, value_compared}
use Rattle.ob_typing.specs.ExpressionFaults.{first_place, value_broken}
use Rattle.ob_typing.specs.Verdict.{Verdict, Right, Foreign, ◌>>=◌, need, or_wrong, test, unless, result}

-- an expression with its type, and its value where it is known
pub record Typed : Type 0 where
  pub type : ScalarType
  pub code : Expression
  pub value : Option Scalar

-- the operations behind an operand, and the value in the end where it is known
pub record Chain : Type 0 where
  pub operations : Operations
  pub value : Option Scalar

-- where selectors lead
pub record Path : Type 0 where
  pub type : DataType
  pub selectors : Program.Selectors

-- the type of a part that is not structured
abbrev pub scalar_part : DataType → ScalarType
scalar_part (Simple t) = t
scalar_part _ = Integer

abbrev pub sign_place : Option Sign → ℕ
sign_place None = 0
sign_place (Some sign) = sign.place

-- a name with its path, where a value is needed: a constant, or a variable that is not structured
abbrev pub named_value : Use → ℕ → Meant → Path → Verdict Typed
named_value use' place (AVariable slot s) path = do
  simple ← test (is_simple path.type) TypesDiffer place
  Right (record { type = scalar_part path.type; code = ValueOf (scalar_part path.type) (Designated slot path.selectors); value = None })
named_value use' place (AConstant v) path = Right (record { type = type_of v; code = Literal v; value = known use' v })
named_value use' place _ path = Foreign

module _ (env : Environment) where
  abbrev mutual
    -- what stands first in the text is tested first, the parts of a construct before the whole
    pub expression : Expr → Use → Verdict Typed
    expression (Tree.Number z place) use' = Right (record { type = Integer; code = Literal (Int z); value = known use' (Int z) })
    -- the name, its selectors, and then that it has a value
    expression (Tree.Named name selectors) use' = do
      known ← unless (value_broken use' (meant env name.text)) name.place
      s ← need (type_meant (meant env name.text))
      path ← selecting selectors use' s
      named_value use' name.place (meant env name.text) path
    expression (Tree.Parens place e) use' = expression e use'
    -- `~` takes a BOOLEAN
    expression (Tree.Not place e) use' = do
      x ← expression e use'
      boolean ← test (same_scalar_type x.type Boolean) TypesDiffer place
      Right (record { type = Boolean; code = Complement x.code; value = option_map complement x.value })
    expression (Tree.Product first rest) use' = do
      x ← expression first use'
      y ← operands rest use' x.type x.value
      Right (record { type = x.type; code = Computed x.code y.operations; value = y.value })
    -- a sign is tested behind the first term: that it takes an INTEGER, and that a constant has a result
    expression (Tree.Sum sign first rest) use' = do
      x ← expression first use'
      fits ← test (sign_fits sign x.type) TypesDiffer (sign_place sign)
      v ← result (value_signed sign x.value) (sign_place sign)
      y ← operands rest use' x.type v
      Right (record { type = x.type; code = Computed (with_sign sign x.code) y.operations; value = y.value })
    -- both sides, and then that they can be compared
    expression (Tree.Comparison left operator place e) use' = do
      x ← expression left use'
      y ← expression e use'
      o ← need (relation_of operator)
      fits ← test (compares o x.type y.type) TypesDiffer place
      Right (record { type = Boolean; code = Compared o x.code y.code; value = value_compared o x.value y.value })

    -- behind an operand of a type and its value: each operator is tested behind its right operand
    pub operands : Operands → Use → ScalarType → Option Scalar → Verdict Chain
    operands Tree.no_operand use' t v = Right (record { operations = no_operation; value = v })
    operands (Tree.operand operator place e rest) use' t v = do
      o ← need (operator_of operator)
      x ← expression e (behind use' o v)
      fits ← test (takes_both o t x.type) TypesDiffer place
      w ← result (value_behind o v x.value) place
      y ← operands rest use' t w
      Right (record { operations = operation o x.code y.operations; value = y.value })

    -- from a type: each selector is tested before the next one
    pub selecting : Selectors → Use → DataType → Verdict Path
    selecting Tree.no_selector use' s = Right (record { type = s; selectors = Program.no_selector })
    -- of a record, and one of its fields
    selecting (Tree.field place name rest) use' s = do
      fields ← or_wrong (fields_of s) WrongKind place
      found ← or_wrong (field_from 0 fields name.text) UnknownName name.place
      y ← selecting rest use' found.1
      Right (record { type = y.type; selectors = Program.field_of found.0 name.text y.selectors })
    -- an INTEGER, and then that it is an array
    selecting (Tree.index place i rest) use' s = do
      x ← expression i use'
      integer ← test (same_scalar_type x.type Integer) TypesDiffer (first_place i)
      found ← or_wrong (elements_of s) WrongKind place
      y ← selecting rest use' found.1
      Right (record { type = y.type; selectors = Program.element_of found.0 x.code y.selectors })
