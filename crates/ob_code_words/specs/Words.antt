-- What instructions make of words. A word is an i64, an INTEGER a number of 32 bits; sums and products are exact, and tested then.
use Rattle.std.specs.Prelude.{ℕ, ◌^◌, Bool, true, false, not, ◌||◌, nat_lt, ℤ, pos, negsuc, ◌+ℤ◌, ◌-ℤ◌, ◌*ℤ◌, neg_ℤ, int_lt, int_le, if◌then◌else◌}
use Rattle.std.specs.Ordering.{int_eq}
use Rattle.std.specs.Int.{int_div_euclid, int_rem_euclid}
use Rattle.ob_code_words.specs.declared.instr.Instr.{Instr}
use Rattle.ob_code_words.specs.declared.instr.Instr.TheVariants.{Field, Index, Add, Subtract, Multiply, Divide, Modulo, Negate, Not, Equal, NotEqual, Less, LessOrEqual, Greater, GreaterOrEqual}

-- what is made: something, a trap of this number, or nothing, where the machine is stuck
pub data Made (A : Type 0) : Type 0 where
  Gives : (made : A) → Made A
  Traps : (number : ℕ) → Made A
  Sticks : Made A

infixl 10 ◌>>=◌
-- goes on with what was made
abbrev pub ◌>>=◌ : {A B : Type 0} → Made A → (A → Made B) → Made B
◌>>=◌ (Gives a) go = go a
◌>>=◌ (Traps k) go = Traps k
◌>>=◌ Sticks go = Sticks

-- from -bound to bound - 1; -(n + 1) is `negsuc n`
abbrev pub is_within : ℕ → ℤ → Bool
is_within bound (pos n) = nat_lt n bound
is_within bound (negsuc n) = nat_lt n bound

abbrev pub is_integer : ℤ → Bool
is_integer z = is_within (2 ^ 31) z

abbrev pub is_word : ℤ → Bool
is_word z = is_within (2 ^ 63) z

-- the result of arithmetic: an INTEGER, or trap 1
abbrev pub integer : ℤ → Made ℤ
integer z = if is_integer z then Gives z else Traps 1

-- an address is a word
abbrev pub address : ℤ → Made ℤ
address z = if is_word z then Gives z else Sticks

-- TRUE is 1 and FALSE is 0
abbrev pub truth : Bool → ℤ
truth true = pos 1
truth false = pos 0

-- of a truth value the other one; other words have none
abbrev pub other_truth : ℤ → Made ℤ
other_truth x =
    if int_eq x (pos 0) then Gives (pos 1) else if int_eq x (pos 1) then Gives (pos 0) else Sticks

-- what an instruction makes of x, the word on top
abbrev pub made_of_one : Instr → ℤ → Made ℤ
-- FLD: the address of a field of the record at x
made_of_one (Field offset) x = address (x +ℤ pos offset)
-- NEG: -x
made_of_one Negate x = integer (neg_ℤ x)
-- NOT: the other truth value
made_of_one Not x = other_truth x
made_of_one _ x = Sticks

-- what an instruction makes of x and y, the two words on top, y above x
abbrev pub made_of_two : Instr → ℤ → ℤ → Made ℤ
-- IDX: the address of element y of the array at x, or trap 2 where it has no such element
made_of_two (Index count element_words) x y =
    if int_lt y (pos 0) || int_le (pos count) y then Traps 2 else address (x +ℤ y *ℤ pos element_words)
-- ADD, SUB, MUL: an INTEGER, or trap 1
made_of_two Add x y = integer (x +ℤ y)
made_of_two Subtract x y = integer (x -ℤ y)
made_of_two Multiply x y = integer (x *ℤ y)
-- DIV, MOD: the divisor y is above 0, else trap 3; x is the quotient times y and the rest, which is from 0 to y - 1
made_of_two Divide x y = if int_le y (pos 0) then Traps 3 else Gives (int_div_euclid x y)
made_of_two Modulo x y = if int_le y (pos 0) then Traps 3 else Gives (int_rem_euclid x y)
-- EQ, NE, LT, LE, GT, GE: a truth value
made_of_two Equal x y = Gives (truth (int_eq x y))
made_of_two NotEqual x y = Gives (truth (not (int_eq x y)))
made_of_two Less x y = Gives (truth (int_lt x y))
made_of_two LessOrEqual x y = Gives (truth (int_le x y))
made_of_two Greater x y = Gives (truth (int_lt y x))
made_of_two GreaterOrEqual x y = Gives (truth (int_le y x))
made_of_two _ x y = Sticks
