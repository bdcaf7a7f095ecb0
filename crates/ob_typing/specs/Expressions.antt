-- Well typed expressions: judgements that lead from a tree, under declared names, to a part of the checked program.
use Rattle.std.specs.Prelude.{◌≡◌, ℕ, ℤ, true, false, if◌then◌else◌, Option, Some, None, option_map}
use Rattle.std.specs.Prelude as Prelude
use Rattle.ob_grammar.specs.declared.tree.Operator.{Operator}
use Rattle.ob_grammar.specs.declared.tree.Sign.{Sign}
use Rattle.ob_grammar.specs.Tree
use Rattle.ob_grammar.specs.Tree.{Expr, Operands, Selectors}
use Rattle.ob_interface.specs.declared.scalar.Scalar.{Scalar}
use Rattle.ob_interface.specs.declared.scalar.Scalar.TheVariants.{Int}
use Rattle.ob_interface.specs.declared.scalar.ScalarType.{ScalarType}
use Rattle.ob_interface.specs.declared.scalar.ScalarType.TheVariants.{Integer, Boolean}
use Rattle.ob_typing.specs.declared.operator.BinaryOperator.{BinaryOperator}
use Rattle.ob_typing.specs.declared.operator.Relation.{Relation}
use Rattle.ob_typing.specs.Program
use Rattle.ob_typing.specs.Program.{DataType, Simple, Fields, Slot, Expression, Literal, ValueOf, Negated, Complement, Computed, Compared, Operations, no_operation, operation, Designator, Designated}
use Rattle.ob_typing.specs.Arithmetic.{Evaluated, Gives, ◌>>=◌, type_of, computed, decides, negated, complement, compared, same_scalar_type, takes_both, compares, operator_of, relation_of}
use Rattle.ob_typing.specs.Scopes.{Environment, AConstant, AVariable, meant, fields_of, elements_of, field_from}

-- where an expression stands
pub data Use : Type 0 where
  -- in a statement: its value is found when the program runs
  InStatement : Use
  -- in a constant expression: it names no variable, and its value is found at once
  InConstant : Use
  -- in a constant expression, behind what decides: it is checked and not computed
  NotComputed : Use

-- the value where it is found at once
abbrev pub known : Use → Scalar → Option Scalar
known InConstant v = Some v
known _ v = None

-- where the operand behind an operator and a value stands
abbrev pub behind : Use → BinaryOperator → Option Scalar → Use
behind use' o None = use'
behind use' o (Some v) = if decides o v then NotComputed else use'

-- the value of an operation, where those of its operands are known; a left operand that decides is the value
abbrev pub both_known : BinaryOperator → Scalar → Option Scalar → Evaluated (Option Scalar)
both_known o v None = Gives (Some v)
both_known o v (Some w) = ◌>>=◌ (computed o v w) (λ u. Gives (Some u))

abbrev pub value_behind : BinaryOperator → Option Scalar → Option Scalar → Evaluated (Option Scalar)
value_behind o None w = Gives None
value_behind o (Some v) w = both_known o v w

-- a sign takes an INTEGER, and `+` leaves it as it is
abbrev pub with_sign : Option Sign → Expression → Expression
with_sign None e = e
with_sign (Some sign) e = if sign.is_minus then Negated e else e

abbrev pub sign_fits : Option Sign → ScalarType → Prelude.Bool
sign_fits None t = true
sign_fits (Some sign) t = same_scalar_type t Integer

abbrev pub value_signed : Option Sign → Option Scalar → Evaluated (Option Scalar)
value_signed (Some sign) (Some v) =
    if sign.is_minus then ◌>>=◌ (negated v) (λ u. Gives (Some u)) else Gives (Some v)
value_signed sign v = Gives v

-- the value of a comparison, where both are known
abbrev pub value_compared : Relation → Option Scalar → Option Scalar → Option Scalar
value_compared o (Some v) (Some w) = Some (compared o v w)
value_compared o v w = None

module _ (env : Environment) where
  mutual
    -- this expression has this scalar type, and this value where it is known
    pub data HasType : Use → Expr → ScalarType → Expression → Option Scalar → Type 0 where
      number : {use' : Use} {z : ℤ} {place : ℕ} →
          HasType use' (Tree.Number z place) Integer (Literal (Int z)) (known use' (Int z))
      constant : {use' : Use} {name : Tree.Name} {s : Scalar} →
          meant env name.text ≡ AConstant s →
          HasType use' (Tree.Named name Tree.no_selector) (type_of s) (Literal s) (known use' s)
      -- a variable, or a part of it, that is not structured
      variable : {name : Tree.Name} {selectors : Selectors} {t : ScalarType} {d : Designator} →
          IsVariable name selectors (Simple t) d → HasType InStatement (Tree.Named name selectors) t (ValueOf t d) None
      parens : {use' : Use} {place : ℕ} {e : Expr} {t : ScalarType} {c : Expression} {v : Option Scalar} →
          HasType use' e t c v → HasType use' (Tree.Parens place e) t c v
      not : {use' : Use} {place : ℕ} {e : Expr} {c : Expression} {v : Option Scalar} →
          HasType use' e Boolean c v → HasType use' (Tree.Not place e) Boolean (Complement c) (option_map complement v)
      product : {use' : Use} {first : Expr} {rest : Operands} {t : ScalarType} {b : Expression} {operations : Operations} {v w : Option Scalar} →
          HasType use' first t b v → AreOperands use' t v rest operations w →
          HasType use' (Tree.Product first rest) t (Computed b operations) w
      sum : {use' : Use} {sign : Option Sign} {first : Expr} {rest : Operands} {t : ScalarType} {b : Expression} {operations : Operations} {u v w : Option Scalar} →
          HasType use' first t b u → sign_fits sign t ≡ true → value_signed sign u ≡ Gives v →
          AreOperands use' t v rest operations w →
          HasType use' (Tree.Sum sign first rest) t (Computed (with_sign sign b) operations) w
      comparison : {use' : Use} {left right : Expr} {operator : Operator} {place : ℕ} {s t : ScalarType} {o : Relation} {b c : Expression} {v w : Option Scalar} →
          HasType use' left s b v → HasType use' right t c w → relation_of operator ≡ Some o → compares o s t ≡ true →
          HasType use' (Tree.Comparison left operator place right) Boolean (Compared o b c) (value_compared o v w)

    -- behind an operand of a type, and its value where it is known: operators of this type, each with an operand, and the value in the end
    pub data AreOperands : Use → ScalarType → Option Scalar → Operands → Operations → Option Scalar → Type 0 where
      no_operand : {use' : Use} {t : ScalarType} {v : Option Scalar} → AreOperands use' t v Tree.no_operand no_operation v
      operand : {use' : Use} {operator : Operator} {o : BinaryOperator} {place : ℕ} {e : Expr} {rest : Operands} {s t : ScalarType} {c : Expression} {operations : Operations} {u v w x : Option Scalar} →
          operator_of operator ≡ Some o → HasType (behind use' o v) e s c u → takes_both o t s ≡ true →
          value_behind o v u ≡ Gives w → AreOperands use' t w rest operations x →
          AreOperands use' t v (Tree.operand operator place e rest) (operation o c operations) x

    -- this name with its selectors is a variable of this type, or a part of one
    pub data IsVariable : Tree.Name → Selectors → DataType → Designator → Type 0 where
      of_slot : {name : Tree.Name} {selectors : Selectors} {slot : Slot} {s t : DataType} {path : Program.Selectors} →
          meant env name.text ≡ AVariable slot s → Selects s selectors t path →
          IsVariable name selectors t (Designated slot path)

    -- from a type, these selectors lead to a type
    pub data Selects : DataType → Selectors → DataType → Program.Selectors → Type 0 where
      itself : {t : DataType} → Selects t Tree.no_selector t Program.no_selector
      field : {place position : ℕ} {name : Tree.Name} {rest : Selectors} {fields : Fields} {r s t : DataType} {path : Program.Selectors} →
          fields_of r ≡ Some fields → field_from 0 fields name.text ≡ Some (position, s) → Selects s rest t path →
          Selects r (Tree.field place name rest) t (Program.field_of position name.text path)
      -- the index is an INTEGER
      index : {place length : ℕ} {i : Expr} {rest : Selectors} {a element t : DataType} {c : Expression} {v : Option Scalar} {path : Program.Selectors} →
          HasType InStatement i Integer c v → elements_of a ≡ Some (length, element) → Selects element rest t path →
          Selects a (Tree.index place i rest) t (Program.element_of length c path)

  -- a constant expression with its value
  pub data HasConstant : Expr → Scalar → Type 0 where
    constant : {e : Expr} {t : ScalarType} {c : Expression} {s : Scalar} →
        HasType InConstant e t c (Some s) → HasConstant e s
