-- What operators take and give: a scalar, or a trap. Constants and expressions share it.
use Rattle.std.specs.Prelude.{◌≡◌, ℕ, ℤ, pos, negsuc, ◌+ℤ◌, ◌-ℤ◌, ◌*ℤ◌, neg_ℤ, int_lt, int_le, false, true, not, ◌&&◌, ◌||◌, Option, Some, None, if◌then◌else◌}
use Rattle.std.specs.Prelude as Prelude
use Rattle.std.specs.Int.{int_div_euclid, int_rem_euclid}
use Rattle.std.specs.Ordering.{int_eq}
use Rattle.ob_grammar.specs.declared.tree.Operator.{Operator}
use Rattle.ob_grammar.specs.declared.tree.Operator.TheVariants as Written
use Rattle.ob_interface.specs.declared.scalar.Scalar.{Scalar}
use Rattle.ob_interface.specs.declared.scalar.Scalar.TheVariants.{Int, Bool}
use Rattle.ob_interface.specs.declared.scalar.ScalarType.{ScalarType}
use Rattle.ob_interface.specs.declared.scalar.ScalarType.TheVariants.{Integer, Boolean}
use Rattle.ob_typing.specs.declared.operator.BinaryOperator.{BinaryOperator}
use Rattle.ob_typing.specs.declared.operator.BinaryOperator.TheVariants.{Plus, Minus, Times, Div, Mod, And, Or}
use Rattle.ob_typing.specs.declared.operator.Relation.{Relation}
use Rattle.ob_typing.specs.declared.operator.Relation.TheVariants.{Equal, NotEqual, Less, LessOrEqual, Greater, GreaterOrEqual}

-- what evaluation gives: something, or the number of a trap
pub data Evaluated (A : Type 0) : Type 0 where
  Gives : A → Evaluated A
  Traps : ℕ → Evaluated A

-- goes on with what was given, or traps
abbrev pub ◌>>=◌ : {A B : Type 0} → Evaluated A → (A → Evaluated B) → Evaluated B
◌>>=◌ (Gives a) go = go a
◌>>=◌ (Traps k) go = Traps k

-- the traps
abbrev pub out_of_range : ℕ
out_of_range = 1

abbrev pub outside_array : ℕ
outside_array = 2

abbrev pub bad_divisor : ℕ
bad_divisor = 3

abbrev pub too_many_activations : ℕ
too_many_activations = 4

abbrev pub no_turn_left : ℕ
no_turn_left = 5

-- the type of a scalar
abbrev pub type_of : Scalar → ScalarType
type_of (Int z) = Integer
type_of (Bool b) = Boolean

-- the number of a scalar that is one
abbrev pub number_of : Scalar → ℤ
number_of (Int z) = z
number_of (Bool b) = pos 0

-- the truth value of a scalar that is one
abbrev pub truth_of : Scalar → Prelude.Bool
truth_of (Bool b) = b
truth_of (Int z) = false

-- an INTEGER, or trap 1 where it is out of range
abbrev pub in_range : ℤ → Evaluated Scalar
in_range z =
    if int_le (negsuc 2147483647) z && int_le z (pos 2147483647)
    then Gives (Int z)
    else Traps out_of_range

-- a result for a divisor above 0, else trap 3
abbrev pub divided : (ℤ → ℤ → ℤ) → ℤ → ℤ → Evaluated Scalar
divided f x y = if int_lt (pos 0) y then in_range (f x y) else Traps bad_divisor

-- what an operator gives for two scalars of its type; the remainder is never negative
abbrev pub computed : BinaryOperator → Scalar → Scalar → Evaluated Scalar
computed Plus v w = in_range (number_of v +ℤ number_of w)
computed Minus v w = in_range (number_of v -ℤ number_of w)
computed Times v w = in_range (number_of v *ℤ number_of w)
computed Div v w = divided int_div_euclid (number_of v) (number_of w)
computed Mod v w = divided int_rem_euclid (number_of v) (number_of w)
computed And v w = Gives (Bool (truth_of v && truth_of w))
computed Or v w = Gives (Bool (truth_of v || truth_of w))

-- `&` and `OR` evaluate their right side only where the left one does not decide: FALSE decides `&`, TRUE decides OR
abbrev pub decides : BinaryOperator → Scalar → Prelude.Bool
decides And (Bool b) = not b
decides Or (Bool b) = b
decides _ v = false

-- what an operator gives behind a value: the value itself where it decides
abbrev pub applied : BinaryOperator → Scalar → Evaluated Scalar → Evaluated Scalar
applied o v right = if decides o v then Gives v else ◌>>=◌ right (λ w. computed o v w)

abbrev pub negated : Scalar → Evaluated Scalar
negated v = in_range (neg_ℤ (number_of v))

abbrev pub complement : Scalar → Scalar
complement v = Bool (not (truth_of v))

-- whether two scalars are the same
abbrev pub equal : Scalar → Scalar → Prelude.Bool
equal (Int x) (Int y) = int_eq x y
equal (Bool a) (Bool b) = if a then b else not b
equal v w = false

abbrev pub compared : Relation → Scalar → Scalar → Scalar
compared Equal v w = Bool (equal v w)
compared NotEqual v w = Bool (not (equal v w))
compared Less v w = Bool (int_lt (number_of v) (number_of w))
compared LessOrEqual v w = Bool (int_le (number_of v) (number_of w))
compared Greater v w = Bool (int_lt (number_of w) (number_of v))
compared GreaterOrEqual v w = Bool (int_le (number_of w) (number_of v))

-- the type that an operator takes, twice, and gives
abbrev pub takes : BinaryOperator → ScalarType
takes And = Boolean
takes Or = Boolean
takes _ = Integer

abbrev pub same_scalar_type : ScalarType → ScalarType → Prelude.Bool
same_scalar_type Integer Integer = true
same_scalar_type Boolean Boolean = true
same_scalar_type s t = false

-- both operands have the type that the operator takes
abbrev pub takes_both : BinaryOperator → ScalarType → ScalarType → Prelude.Bool
takes_both o s t = same_scalar_type s (takes o) && same_scalar_type t (takes o)

-- `=` and `#` compare two scalars of one type, the others two INTEGER
abbrev pub compares : Relation → ScalarType → ScalarType → Prelude.Bool
compares Equal s t = same_scalar_type s t
compares NotEqual s t = same_scalar_type s t
compares _ s t = same_scalar_type s Integer && same_scalar_type t Integer

-- the operator that is written so, where it is one of a chain
abbrev pub operator_of : Operator → Option BinaryOperator
operator_of Written.Plus = Some Plus
operator_of Written.Minus = Some Minus
operator_of Written.Times = Some Times
operator_of Written.Div = Some Div
operator_of Written.Mod = Some Mod
operator_of Written.And = Some And
operator_of Written.Or = Some Or
operator_of _ = None

-- the relation that is written so
abbrev pub relation_of : Operator → Option Relation
relation_of Written.Equal = Some Equal
relation_of Written.NotEqual = Some NotEqual
relation_of Written.Less = Some Less
relation_of Written.LessOrEqual = Some LessOrEqual
relation_of Written.Greater = Some Greater
relation_of Written.GreaterOrEqual = Some GreaterOrEqual
relation_of _ = None
