-- Calls as words and back.
use Rattle.std.proofs.Common.{◌≡◌, ℕ, zero, suc, ◌+◌, ◌≤◌, Bool, true, false, ◌&&◌, cond, ℤ, pos, neg_ℤ, ◌≤ℤ◌, List, [], ◌∷◌, length, map, drop, refl, sym, ap, ◌∙◌, All, arith}
use Rattle.std.specs.Prelude.{slice_index_or, int_le}
use Rattle.std.specs.List.{range_with_len}
use Rattle.std.proofs.lemmas.Int.{ints}
use Rattle.std.proofs.lemmas.List.{length-map}
use Rattle.std.proofs.lemmas.List.Elements.{All-head, All-tail}
use Rattle.ob_interface.specs.declared.scalar.Scalar.{Scalar}
use Rattle.ob_interface.specs.declared.scalar.Scalar.TheVariants.{Int, Bool as Truth}
use Rattle.ob_interface.specs.declared.scalar.ScalarType.{ScalarType}
use Rattle.ob_interface.specs.declared.scalar.ScalarType.TheVariants.{Integer, Boolean}
use Rattle.ob_interface.specs.declared.export.Formal.{Formal}
use Rattle.ob_interface.specs.Export.{type_of, var_types}
use Rattle.ob_typing.specs.Program.{DataType, Name, Parameter}
use Rattle.ob_meaning.specs.ByNameObject.{first_argument, other_arguments}
use Rattle.ob_code_machine.specs.declared.argument.Argument.{Argument}
use Rattle.ob_code_machine.specs.declared.argument.Argument.TheVariants as Arguments
use Rattle.ob_code_scheme.specs.Types.{IsInteger}
use Rattle.ob_code_scheme.specs.Layout.{word}
use Rattle.ob_code_scheme.specs.Correct.{formals_of, IsInRange, arguments_of, words_of}
use Rattle.ob_code_correct.specs.CodeMeaning.{first_word, other_words, padded, arguments_in, integer_in, scalar_in, values_of, result_count, value_count}

pub length-padded : (n : ℕ) (words : List ℤ) → length (padded n words) ≡ n
length-padded zero words = refl
length-padded (suc n) words = ap suc (length-padded n (other_words words))

-- ---- arguments

-- a parameter, taken apart so that cases of whether it is VAR compute
abbrev one : Name → Bool → DataType → Parameter
one name is_var type = record { name = name; is_var = is_var; type = type }

first_is : (arguments : List Scalar) → first_word (words_of arguments) ≡ word (first_argument arguments)
first_is [] = refl
first_is (a ∷ arguments) = refl

others_are : (arguments : List Scalar) → other_words (words_of arguments) ≡ words_of (other_arguments arguments)
others_are [] = refl
others_are (a ∷ arguments) = refl

handed_one : (name : Name) (b : Bool) (t : DataType) (ps : List Parameter) (arguments : List Scalar) (n : ℕ) →
    ((given : List Scalar) (k : ℕ) → value_count (formals_of ps) ≤ k → arguments_in (formals_of ps) (padded k (words_of given)) ≡ arguments_of ps given) →
    value_count (formals_of (one name b t ∷ ps)) ≤ n → arguments_in (formals_of (one name b t ∷ ps)) (padded n (words_of arguments)) ≡ arguments_of (one name b t ∷ ps) arguments
handed_one name true t ps arguments n further le = ap (λ (given : List Argument). Arguments.Var ∷ given) (further arguments n le)
handed_one name false t ps arguments zero further le = absurd (omega (arith, le))
handed_one name false t ps arguments (suc n) further le =
    ap (λ (w : ℤ). Arguments.Value w ∷ arguments_in (formals_of ps) (padded n (other_words (words_of arguments)))) (first_is arguments)
    ∙ ap (λ (ws : List ℤ). Arguments.Value (word (first_argument arguments)) ∷ arguments_in (formals_of ps) (padded n ws)) (others_are arguments)
    ∙ ap (λ (given : List Argument). Arguments.Value (word (first_argument arguments)) ∷ given) (further (other_arguments arguments) n (omega (arith, le)))

-- the words of a call hand over its arguments
pub handed_back : (ps : List Parameter) (arguments : List Scalar) (n : ℕ) → value_count (formals_of ps) ≤ n → arguments_in (formals_of ps) (padded n (words_of arguments)) ≡ arguments_of ps arguments
handed_back [] arguments n le = refl
handed_back (p ∷ ps) arguments n le = handed_one p.name p.is_var p.type ps arguments n (handed_back ps) le

-- ---- results

low_is : (z : ℤ) → neg_ℤ (pos 2147483648) ≤ℤ z → int_le (neg_ℤ (pos 2147483648)) z ≡ true
low_is z h = grind (arith, ints)

high_is : (z : ℤ) → z ≤ℤ pos 2147483647 → int_le z (pos 2147483647) ≡ true
high_is z h = grind (arith, ints)

integer_back : (z : ℤ) → IsInteger z → integer_in z ≡ z
integer_back z h =
    ap (λ (b : Bool). cond (b && int_le z (pos 2147483647)) z (pos 0)) (low_is z h.low) ∙ ap (λ (b : Bool). cond b z (pos 0)) (high_is z h.high)

scalar_back : (t : ScalarType) (s : Scalar) → type_of s ≡ t → IsInRange s → scalar_in t (word s) ≡ s
scalar_back Integer (Int z) same h = ap Int (integer_back z h)
scalar_back Integer (Truth b) same h = absurd (cc)
scalar_back Boolean (Int z) same h = absurd (cc)
scalar_back Boolean (Truth true) same h = refl
scalar_back Boolean (Truth false) same h = refl

-- a parameter as a caller knows it, taken apart
abbrev known : Bool → ScalarType → Formal
known is_var type = record { is_var = is_var; scalar_type = type }

abbrev first_type : List ScalarType → ScalarType
first_type [] = Integer
first_type (t ∷ types) = t

abbrev other_types : List ScalarType → List ScalarType
other_types [] = []
other_types (t ∷ types) = types

back_one : (b : Bool) (t : ScalarType) (fs : List Formal) (values : List Scalar) (n : ℕ) →
    ((vs : List Scalar) (k : ℕ) → map type_of vs ≡ var_types fs → All IsInRange vs → length vs ≤ k → values_of fs (padded k (words_of vs)) ≡ vs) →
    map type_of values ≡ var_types (known b t ∷ fs) → All IsInRange values → length values ≤ n → values_of (known b t ∷ fs) (padded n (words_of values)) ≡ values
back_one true t fs [] n further same range le = absurd (cc)
back_one true t fs (v ∷ values) zero further same range le = absurd (omega (arith, le))
back_one true t fs (v ∷ values) (suc n) further same range le =
    ap (λ (s : Scalar). s ∷ values_of fs (padded n (words_of values))) (scalar_back t v (ap first_type same) (All-head IsInRange v values range))
    ∙ ap (λ (vs : List Scalar). v ∷ vs) (further values n (ap other_types same) (All-tail IsInRange v values range) (omega (arith, le)))
back_one false t fs values n further same range le = further values n same range le

-- the words of answers give the answers back
pub values_back : (fs : List Formal) (values : List Scalar) (n : ℕ) → map type_of values ≡ var_types fs → All IsInRange values → length values ≤ n → values_of fs (padded n (words_of values)) ≡ values
values_back [] [] n same range le = refl
values_back [] (v ∷ values) n same range le = absurd (cc)
values_back (f ∷ fs) values n same range le = back_one f.is_var f.scalar_type fs values n (values_back fs) same range le

types_one : (b : Bool) (t : ScalarType) (fs : List Formal) → length (var_types fs) ≡ result_count fs → length (var_types (known b t ∷ fs)) ≡ result_count (known b t ∷ fs)
types_one true t fs further = ap suc further
types_one false t fs further = further

types_count : (fs : List Formal) → length (var_types fs) ≡ result_count fs
types_count [] = refl
types_count (f ∷ fs) = types_one f.is_var f.scalar_type fs (types_count fs)

pub values_count : (fs : List Formal) (values : List Scalar) → map type_of values ≡ var_types fs → length values ≡ result_count fs
values_count fs values same = sym (length-map values type_of) ∙ ap (λ (types : List ScalarType). length types) same ∙ types_count fs

-- the words that are kept of a stack
first_dropped : (stack : List ℤ) (a : ℕ) → slice_index_or stack a (pos 0) ≡ first_word (drop a stack)
first_dropped [] zero = refl
first_dropped [] (suc a) = refl
first_dropped (w ∷ stack) zero = refl
first_dropped (w ∷ stack) (suc a) = first_dropped stack a

others_dropped : (stack : List ℤ) (a : ℕ) → other_words (drop a stack) ≡ drop (suc a) stack
others_dropped [] zero = refl
others_dropped [] (suc a) = refl
others_dropped (w ∷ stack) zero = refl
others_dropped (w ∷ stack) (suc a) = others_dropped stack a

kept_from : (n a : ℕ) (stack : List ℤ) → map (λ i. slice_index_or stack i (pos 0)) (range_with_len a n) ≡ padded n (drop a stack)
kept_from zero a stack = refl
kept_from (suc n) a stack =
    ap (λ (w : ℤ). w ∷ map (λ i. slice_index_or stack i (pos 0)) (range_with_len (a + 1) n)) (first_dropped stack a)
    ∙ ap (λ (ws : List ℤ). first_word (drop a stack) ∷ ws) (kept_from n (a + 1) stack)
    ∙ ap (λ (k : ℕ). first_word (drop a stack) ∷ padded n (drop k stack)) more
    ∙ ap (λ (ws : List ℤ). first_word (drop a stack) ∷ padded n ws) (sym (others_dropped stack a))
  where
    more : a + 1 ≡ suc a
    more = omega arith

pub kept_words : (n : ℕ) (stack : List ℤ) → map (λ i. slice_index_or stack i (pos 0)) (range_with_len 0 n) ≡ padded n stack
kept_words n stack = kept_from n 0 stack

pub past_words : (stack : List ℤ) (i : ℕ) → length stack ≤ i → slice_index_or stack i (pos 0) ≡ pos 0
past_words [] zero h = refl
past_words [] (suc i) h = refl
past_words (w ∷ stack) zero h = absurd (omega (arith, h))
past_words (w ∷ stack) (suc i) h = past_words stack i (omega (arith, h))

-- a reply has no more values than the export has parameters
few_one : (b : Bool) (f : Formal) (fs : List Formal) (words : List ℤ) → ((ws : List ℤ) → length (values_of fs ws) ≤ length fs) →
    length (cond b (scalar_in f.scalar_type (first_word words) ∷ values_of fs (other_words words)) (values_of fs words)) ≤ suc (length fs)
few_one true f fs words further = let rest = further (other_words words) in omega (arith, rest)
few_one false f fs words further = let rest = further words in omega (arith, rest)

pub values_short : (fs : List Formal) (words : List ℤ) → length (values_of fs words) ≤ length fs
values_short [] words = omega arith
values_short (f ∷ fs) words = few_one f.is_var f fs words (values_short fs)
