-- What operators and relations give for scalars, and what their instructions make of the words: the same, or the same trap.
use Rattle.std.proofs.Common.{◌≡◌, ℕ, ◌<◌, ◌≤◌, ltb, ℤ, pos, negsuc, neg_ℤ, ◌+ℤ◌, ◌-ℤ◌, ◌*ℤ◌, Bool, true, false, not, ◌&&◌, cond, refl, sym, ap, ◌∙◌, subst, ⊎_elim, arith}
use Rattle.std.specs.Prelude.{int_lt, int_le}
use Rattle.std.specs.Int.{int_div_euclid, int_rem_euclid}
use Rattle.std.specs.Ordering.{int_eq}
use Rattle.std.proofs.lemmas.Bool.{cases_lt}
use Rattle.std.proofs.lemmas.Bool.Decides.{nat_tests}
use Rattle.std.proofs.lemmas.Int.{ints}
use Rattle.std.proofs.Math.Nat.{div-add-mod}
use Rattle.ob_interface.specs.declared.scalar.Scalar.{Scalar}
use Rattle.ob_interface.specs.declared.scalar.Scalar.TheVariants.{Int, Bool as Truth}
use Rattle.ob_interface.specs.declared.scalar.ScalarType.{ScalarType}
use Rattle.ob_interface.specs.declared.scalar.ScalarType.TheVariants.{Integer, Boolean}
use Rattle.ob_typing.specs.declared.operator.BinaryOperator.{BinaryOperator}
use Rattle.ob_typing.specs.declared.operator.BinaryOperator.TheVariants.{Plus, Minus, Times, Div, Mod, And, Or}
use Rattle.ob_typing.specs.declared.operator.Relation.{Relation}
use Rattle.ob_typing.specs.declared.operator.Relation.TheVariants.{Equal, NotEqual, Less, LessOrEqual, Greater, GreaterOrEqual}
use Rattle.ob_typing.specs.Arithmetic.{Evaluated, Gives as Given, Traps as Fails, in_range, divided, computed, negated, complement, equal, compared}
use Rattle.ob_code_scheme.specs.Types.{IsInteger, IsScalarOf}
use Rattle.ob_code_scheme.specs.WellFormed.{IsOn}
use Rattle.ob_code_scheme.specs.Layout.{word}
use Rattle.ob_code_words.specs.declared.instr.Instr.{Instr}
use Rattle.ob_code_words.specs.declared.instr.Instr.TheVariants as Instrs
use Rattle.ob_code_words.specs.Words.{Gives, Traps, is_integer, integer, truth, made_of_one, made_of_two}
use Rattle.ob_code_scheme.specs.Scheme.{relation_instruction}
use Rattle.ob_code_correct.proofs.Instructions.{IsOfTwo, Agrees}

-- ---- ranges: the source and the machine test the same one

data Ranged (z : ℤ) : Type 0 where
  inside : IsInteger z → in_range z ≡ Given (Int z) → integer z ≡ Gives z → Ranged z
  outside : in_range z ≡ Fails 1 → integer z ≡ Traps 1 → Ranged z

abbrev is_low : ℤ → Bool
is_low z = int_le (negsuc 2147483647) z

abbrev is_high : ℤ → Bool
is_high z = int_le z (pos 2147483647)

below : (m n : ℕ) → m < n → ltb m n ≡ true
below m n h = grind (arith, nat_tests)

above : (m n : ℕ) → n ≤ m → ltb m n ≡ false
above m n h = grind (arith, nat_tests)

range_holds : (z : ℤ) → is_low z ≡ true → is_high z ≡ true → in_range z ≡ Given (Int z)
range_holds z low high =
    ap (λ (b : Bool). cond (b && is_high z) (Given (Int z)) (Fails 1)) low ∙ ap (λ (b : Bool). cond b (Given (Int z)) (Fails 1)) high

ranged_in : (z : ℤ) → IsInteger z → is_low z ≡ true → is_high z ≡ true → is_integer z ≡ true → Ranged z
ranged_in z h low high fits = inside h (range_holds z low high) (ap (λ (b : Bool). cond b (Gives z) (Traps 1)) fits)

low_false : (a b : Bool) → a ≡ false → a && b ≡ false
low_false true b h = absurd (cc)
low_false false b h = refl

high_false : (a b : Bool) → b ≡ false → a && b ≡ false
high_false true b h = h
high_false false b h = refl

ranged_out : (z : ℤ) → is_low z && is_high z ≡ false → is_integer z ≡ false → Ranged z
ranged_out z test fits =
    outside (ap (λ (b : Bool). cond b (Given (Int z)) (Fails 1)) test) (ap (λ (b : Bool). cond b (Gives z) (Traps 1)) fits)

ranged : (z : ℤ) → Ranged z
ranged (pos n) =
    ⊎_elim
    (λ few. ranged_in (pos n) (record { low = omega (arith, ints); high = omega (arith, ints, few) }) (low_pos n) (high_in n few) (below n 2147483648 few))
    (λ many. ranged_out (pos n) (high_false (is_low (pos n)) (is_high (pos n)) (high_out n many)) (above n 2147483648 many))
    (cases_lt n 2147483648)
  where
    low_pos : (n : ℕ) → is_low (pos n) ≡ true
    low_pos n = grind (arith, ints)

    high_in : (n : ℕ) → n < 2147483648 → is_high (pos n) ≡ true
    high_in n h = grind (arith, ints)

    high_out : (n : ℕ) → 2147483648 ≤ n → is_high (pos n) ≡ false
    high_out n h = grind (arith, ints)
ranged (negsuc n) =
    ⊎_elim
    (λ few. ranged_in (negsuc n) (record { low = omega (arith, ints, few); high = omega (arith, ints) }) (low_in n few) (high_neg n) (below n 2147483648 few))
    (λ many. ranged_out (negsuc n) (low_false (is_low (negsuc n)) (is_high (negsuc n)) (low_out n many)) (above n 2147483648 many))
    (cases_lt n 2147483648)
  where
    low_in : (n : ℕ) → n < 2147483648 → is_low (negsuc n) ≡ true
    low_in n h = grind (arith, ints)

    low_out : (n : ℕ) → 2147483648 ≤ n → is_low (negsuc n) ≡ false
    low_out n h = grind (arith, ints)

    high_neg : (n : ℕ) → is_high (negsuc n) ≡ true
    high_neg n = grind (arith, ints)

-- an INTEGER passes the source's test
in_range_is : (z : ℤ) → IsInteger z → in_range z ≡ Given (Int z)
in_range_is z h = range_holds z (low z h) (high z h)
  where
    low : (z : ℤ) → IsInteger z → is_low z ≡ true
    low z h = grind (arith, ints, h.low)

    high : (z : ℤ) → IsInteger z → is_high z ≡ true
    high z h = grind (arith, ints, h.high)

-- both make the number, or trap
integer_agrees : (z : ℤ) → Agrees Integer (integer z) (in_range z)
integer_agrees z = by (ranged z)
  where
    by : Ranged z → Agrees Integer (integer z) (in_range z)
    by (inside h source machine) = subst (λ (e : Evaluated Scalar). Agrees Integer (integer z) e) (sym source) (h, machine)
    by (outside source machine) = subst (λ (e : Evaluated Scalar). Agrees Integer (integer z) e) (sym source) machine

-- ---- quotients and rests of an INTEGER by a number above 0 are INTEGER

quotient_in : (x : ℤ) (n : ℕ) → 0 < n → IsInteger x → IsInteger (int_div_euclid x (pos n))
quotient_in (pos a) n h x = record { low = omega (arith, ints); high = omega (arith, ints, x.high, div-add-mod a n) }
quotient_in (negsuc a) n h x = record { low = omega (arith, ints, x.low, div-add-mod a n); high = omega (arith, ints) }

rest_in : (x : ℤ) (n : ℕ) → 0 < n → n ≤ 2147483647 → IsInteger (int_rem_euclid x (pos n))
rest_in (pos a) n h k = record { low = omega (arith, ints); high = omega (arith, ints) }
rest_in (negsuc a) n h k = record { low = omega (arith, ints); high = omega (arith, ints) }

divisor_in : (n : ℕ) → IsInteger (pos n) → n ≤ 2147483647
divisor_in n h = omega (arith, ints, h.high)

-- a result for this divisor, where the result is an INTEGER for each one above 0
divided_agrees : (f : ℤ → ℤ → ℤ) (x y : ℤ) → ((n : ℕ) → 0 < n → IsInteger (pos n) → IsInteger (f x (pos n))) → IsInteger y →
    Agrees Integer (cond (int_le y (pos 0)) (Traps 3) (Gives (f x y))) (divided f x y)
divided_agrees f x (pos n) fits h =
    ⊎_elim
    (λ (above_0 : 0 < n).
    let typed = fits n above_0 h in
    let source : divided f x (pos n) ≡ Given (Int (f x (pos n))) = ap (λ (b : Bool). cond b (in_range (f x (pos n))) (Fails 3)) (holds n above_0) ∙ in_range_is (f x (pos n)) typed in
    subst (λ (e : Evaluated Scalar). Agrees Integer (cond (int_le (pos n) (pos 0)) (Traps 3) (Gives (f x (pos n)))) e) (sym source)
    (typed, ap (λ (b : Bool). cond b (Traps 3) (Gives (f x (pos n)))) (fails n above_0)))
    (λ (none : n ≤ 0).
    let source : divided f x (pos n) ≡ Fails 3 = ap (λ (b : Bool). cond b (in_range (f x (pos n))) (Fails 3)) (not_holds n none) in
    subst (λ (e : Evaluated Scalar). Agrees Integer (cond (int_le (pos n) (pos 0)) (Traps 3) (Gives (f x (pos n)))) e) (sym source)
    (ap (λ (b : Bool). cond b (Traps 3) (Gives (f x (pos n)))) (not_fails n none)))
    (cases_lt 0 n)
  where
    holds : (n : ℕ) → 0 < n → int_lt (pos 0) (pos n) ≡ true
    holds n h = grind (arith, ints)

    fails : (n : ℕ) → 0 < n → int_le (pos n) (pos 0) ≡ false
    fails n h = grind (arith, ints)

    not_holds : (n : ℕ) → n ≤ 0 → int_lt (pos 0) (pos n) ≡ false
    not_holds n h = grind (arith, ints)

    not_fails : (n : ℕ) → n ≤ 0 → int_le (pos n) (pos 0) ≡ true
    not_fails n h = grind (arith, ints)
divided_agrees f x (negsuc n) fits h = refl

-- ---- the operators of numbers

-- the instruction of an operator that takes two numbers
abbrev pub number_instruction : BinaryOperator → Instr
number_instruction Plus = Instrs.Add
number_instruction Minus = Instrs.Subtract
number_instruction Times = Instrs.Multiply
number_instruction Div = Instrs.Divide
number_instruction Mod = Instrs.Modulo
number_instruction o = Instrs.Turn

abbrev pub IsOfNumbers : BinaryOperator → Type 0
IsOfNumbers And = ⊥
IsOfNumbers Or = ⊥
IsOfNumbers o = Unit {0}

pub number_of_two : (o : BinaryOperator) → IsOfNumbers o → IsOfTwo (number_instruction o)
number_of_two Plus h = λ reserve c. refl
number_of_two Minus h = λ reserve c. refl
number_of_two Times h = λ reserve c. refl
number_of_two Div h = λ reserve c. refl
number_of_two Mod h = λ reserve c. refl
number_of_two And h = absurd h
number_of_two Or h = absurd h

numbers_agree : (o : BinaryOperator) (x y : ℤ) → IsOfNumbers o → IsInteger x → IsInteger y → Agrees Integer (made_of_two (number_instruction o) x y) (computed o (Int x) (Int y))
numbers_agree Plus x y o h k = integer_agrees (x +ℤ y)
numbers_agree Minus x y o h k = integer_agrees (x -ℤ y)
numbers_agree Times x y o h k = integer_agrees (x *ℤ y)
numbers_agree Div x y o h k = divided_agrees int_div_euclid x y (λ n above_0 fits. quotient_in x n above_0 h) k
numbers_agree Mod x y o h k = divided_agrees int_rem_euclid x y (λ n above_0 fits. rest_in x n above_0 (divisor_in n fits)) k
numbers_agree And x y o h k = absurd o
numbers_agree Or x y o h k = absurd o

pub computed_agrees : (o : BinaryOperator) (v w : Scalar) → IsOfNumbers o → IsScalarOf Integer v → IsScalarOf Integer w →
    Agrees Integer (made_of_two (number_instruction o) (word v) (word w)) (computed o v w)
computed_agrees o (Int x) (Int y) numbers h k = numbers_agree o x y numbers h k
computed_agrees o (Int x) (Truth b) numbers h k = absurd k
computed_agrees o (Truth a) w numbers h k = absurd h

-- ---- `-` and `~`

pub negated_agrees : (v : Scalar) → IsScalarOf Integer v → Agrees Integer (made_of_one Instrs.Negate (word v)) (negated v)
negated_agrees (Int x) h = integer_agrees (neg_ℤ x)
negated_agrees (Truth b) h = absurd h

pub complement_agrees : (v : Scalar) → IsScalarOf Boolean v → Agrees Boolean (made_of_one Instrs.Not (word v)) (Given (complement v))
complement_agrees (Int x) h = absurd h
complement_agrees (Truth true) h = (tt, refl)
complement_agrees (Truth false) h = (tt, refl)

-- ---- relations

truth_word : (b : Bool) → truth b ≡ word (Truth b)
truth_word true = refl
truth_word false = refl

pub relation_of_two : (r : Relation) → IsOfTwo (relation_instruction r)
relation_of_two Equal = λ reserve c. refl
relation_of_two NotEqual = λ reserve c. refl
relation_of_two Less = λ reserve c. refl
relation_of_two LessOrEqual = λ reserve c. refl
relation_of_two Greater = λ reserve c. refl
relation_of_two GreaterOrEqual = λ reserve c. refl

numbers_compared : (r : Relation) (x y : ℤ) → Agrees Boolean (made_of_two (relation_instruction r) x y) (Given (compared r (Int x) (Int y)))
numbers_compared Equal x y = (tt, ap (λ (z : ℤ). Gives z) (truth_word (int_eq x y)))
numbers_compared NotEqual x y = (tt, ap (λ (z : ℤ). Gives z) (truth_word (not (int_eq x y))))
numbers_compared Less x y = (tt, ap (λ (z : ℤ). Gives z) (truth_word (int_lt x y)))
numbers_compared LessOrEqual x y = (tt, ap (λ (z : ℤ). Gives z) (truth_word (int_le x y)))
numbers_compared Greater x y = (tt, ap (λ (z : ℤ). Gives z) (truth_word (int_lt y x)))
numbers_compared GreaterOrEqual x y = (tt, ap (λ (z : ℤ). Gives z) (truth_word (int_le y x)))

-- two truth values are the same where their words are
same_words : (a b : Bool) → int_eq (word (Truth a)) (word (Truth b)) ≡ equal (Truth a) (Truth b)
same_words true true = refl
same_words true false = refl
same_words false true = refl
same_words false false = refl

truths_compared : (r : Relation) (a b : Bool) → IsOn r Boolean → Agrees Boolean (made_of_two (relation_instruction r) (word (Truth a)) (word (Truth b))) (Given (compared r (Truth a) (Truth b)))
truths_compared Equal a b h = (tt, ap (λ (t : Bool). Gives (truth t)) (same_words a b) ∙ ap (λ (z : ℤ). Gives z) (truth_word (equal (Truth a) (Truth b))))
truths_compared NotEqual a b h = (tt, ap (λ (t : Bool). Gives (truth (not t))) (same_words a b) ∙ ap (λ (z : ℤ). Gives z) (truth_word (not (equal (Truth a) (Truth b)))))
truths_compared Less a b h = absurd (cc)
truths_compared LessOrEqual a b h = absurd (cc)
truths_compared Greater a b h = absurd (cc)
truths_compared GreaterOrEqual a b h = absurd (cc)

pub compared_agrees : (r : Relation) (s : ScalarType) (v w : Scalar) → IsOn r s → IsScalarOf s v → IsScalarOf s w →
    Agrees Boolean (made_of_two (relation_instruction r) (word v) (word w)) (Given (compared r v w))
compared_agrees r Integer (Int x) (Int y) on h k = numbers_compared r x y
compared_agrees r Integer (Int x) (Truth b) on h k = absurd k
compared_agrees r Integer (Truth a) w on h k = absurd h
compared_agrees r Boolean (Truth a) (Truth b) on h k = truths_compared r a b on
compared_agrees r Boolean (Truth a) (Int y) on h k = absurd k
compared_agrees r Boolean (Int x) w on h k = absurd h
