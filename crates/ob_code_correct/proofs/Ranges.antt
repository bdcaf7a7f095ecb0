-- Values of constant expressions are in range.
use Rattle.std.proofs.Common.{◌≡◌, Bool, true, false, ◌&&◌, ℤ, pos, negsuc, refl, subst, arith}
use Rattle.std.specs.Prelude.{◌+ℤ◌, ◌-ℤ◌, ◌*ℤ◌, neg_ℤ, int_le, int_lt, Option, Some, None, if◌then◌else◌, option_map}
use Rattle.std.specs.Int.{int_div_euclid, int_rem_euclid}
use Rattle.std.proofs.lemmas.Bool.{and_parts}
use Rattle.std.proofs.lemmas.Int.{ints}
use Rattle.ob_grammar.specs.declared.tree.Sign.{Sign}
use Rattle.ob_interface.specs.declared.scalar.Scalar.{Scalar}
use Rattle.ob_interface.specs.declared.scalar.Scalar.TheVariants.{Int}
use Rattle.ob_typing.specs.declared.operator.BinaryOperator.{BinaryOperator}
use Rattle.ob_typing.specs.declared.operator.BinaryOperator.TheVariants.{Plus, Minus, Times, Div, Mod, And, Or}
use Rattle.ob_typing.specs.declared.operator.Relation.{Relation}
use Rattle.ob_typing.specs.declared.operator.Relation.TheVariants.{Equal, NotEqual, Less, LessOrEqual, Greater, GreaterOrEqual}
use Rattle.ob_typing.specs.Arithmetic.{Evaluated, Gives, Traps, ◌>>=◌, number_of, in_range, computed, negated, complement, compared}
use Rattle.ob_typing.specs.Expressions.{Use, InStatement, InConstant, NotComputed, known, value_behind, value_signed, value_compared}
use Rattle.ob_code_scheme.specs.Types.{IsInteger}
use Rattle.ob_code_scheme.specs.Correct.{IsInRange}

-- where there is a value, it is in range
abbrev pub IsInRangeIf : Option Scalar → Type 0
IsInRangeIf None = Unit {0}
IsInRangeIf (Some s) = IsInRange s

abbrev Comes : Evaluated Scalar → Type 0
Comes (Gives s) = IsInRange s
Comes (Traps k) = Unit {0}

abbrev ComesIf : Evaluated (Option Scalar) → Type 0
ComesIf (Gives v) = IsInRangeIf v
ComesIf (Traps k) = Unit {0}

if_comes : (b : Bool) (s : Scalar) (k : _) → (b ≡ true → IsInRange s) → Comes (if b then Gives s else Traps k)
if_comes true s k h = h refl
if_comes false s k h = tt

is_integer : (z : ℤ) → int_le (negsuc 2147483647) z ≡ true → int_le z (pos 2147483647) ≡ true → IsInteger z
is_integer z low high = record { low = grind (arith, ints); high = grind (arith, ints) }

in_range_comes : (z : ℤ) → Comes (in_range z)
in_range_comes z =
    if_comes (int_le (negsuc 2147483647) z && int_le z (pos 2147483647)) (Int z) 1
    (λ e. let both = and_parts (int_le (negsuc 2147483647) z) (int_le z (pos 2147483647)) e in is_integer z both.0 both.1)

either_comes : (b : Bool) (e : Evaluated Scalar) (k : _) → Comes e → Comes (if b then e else Traps k)
either_comes true e k h = h
either_comes false e k h = tt

computed_comes : (o : BinaryOperator) (v w : Scalar) → Comes (computed o v w)
computed_comes Plus v w = in_range_comes (number_of v +ℤ number_of w)
computed_comes Minus v w = in_range_comes (number_of v -ℤ number_of w)
computed_comes Times v w = in_range_comes (number_of v *ℤ number_of w)
computed_comes Div v w =
    either_comes (int_lt (pos 0) (number_of w)) (in_range (int_div_euclid (number_of v) (number_of w))) 3 (in_range_comes (int_div_euclid (number_of v) (number_of w)))
computed_comes Mod v w =
    either_comes (int_lt (pos 0) (number_of w)) (in_range (int_rem_euclid (number_of v) (number_of w))) 3 (in_range_comes (int_rem_euclid (number_of v) (number_of w)))
computed_comes And v w = tt
computed_comes Or v w = tt

some_comes : (e : Evaluated Scalar) → Comes e → ComesIf (◌>>=◌ e (λ u. Gives (Some u)))
some_comes (Gives s) h = h
some_comes (Traps k) h = tt

came : (e : Evaluated (Option Scalar)) (w : Option Scalar) → ComesIf e → e ≡ Gives w → IsInRangeIf w
came e w h is = subst ComesIf is h

behind_comes : (o : BinaryOperator) (v u : Option Scalar) → IsInRangeIf v → ComesIf (value_behind o v u)
behind_comes o None u h = tt
behind_comes o (Some v) None h = h
behind_comes o (Some v) (Some w) h = some_comes (computed o v w) (computed_comes o v w)

pub behind_in_range : (o : BinaryOperator) (v u w : Option Scalar) → IsInRangeIf v → value_behind o v u ≡ Gives w → IsInRangeIf w
behind_in_range o v u w h is = came (value_behind o v u) w (behind_comes o v u h) is

signed_comes : (b : Bool) (v : Scalar) → IsInRange v → ComesIf (if b then ◌>>=◌ (negated v) (λ u. Gives (Some u)) else Gives (Some v))
signed_comes true v h = some_comes (negated v) (in_range_comes (neg_ℤ (number_of v)))
signed_comes false v h = h

sign_comes : (sign : Option Sign) (v : Option Scalar) → IsInRangeIf v → ComesIf (value_signed sign v)
sign_comes None v h = h
sign_comes (Some sign) None h = h
sign_comes (Some sign) (Some v) h = signed_comes sign.is_minus v h

pub signed_in_range : (sign : Option Sign) (v w : Option Scalar) → IsInRangeIf v → value_signed sign v ≡ Gives w → IsInRangeIf w
signed_in_range sign v w h is = came (value_signed sign v) w (sign_comes sign v h) is

pub known_in_range : (use' : Use) (s : Scalar) → IsInRange s → IsInRangeIf (known use' s)
known_in_range InStatement s h = tt
known_in_range InConstant s h = h
known_in_range NotComputed s h = tt

pub complement_in_range : (v : Option Scalar) → IsInRangeIf (option_map complement v)
complement_in_range None = tt
complement_in_range (Some s) = tt

one_compared : (o : Relation) (v w : Scalar) → IsInRange (compared o v w)
one_compared Equal v w = tt
one_compared NotEqual v w = tt
one_compared Less v w = tt
one_compared LessOrEqual v w = tt
one_compared Greater v w = tt
one_compared GreaterOrEqual v w = tt

pub compared_in_range : (o : Relation) (v w : Option Scalar) → IsInRangeIf (value_compared o v w)
compared_in_range o None w = tt
compared_in_range o (Some v) None = tt
compared_in_range o (Some v) (Some w) = one_compared o v w
