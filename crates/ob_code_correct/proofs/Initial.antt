-- What variables begin as: a value of their type, and zeros.
use Rattle.std.proofs.Common.{◌≡◌, ℕ, zero, suc, ◌+◌, ◌*◌, ℤ, pos, List, [], ◌∷◌, ◌++◌, replicate, refl, ap, ◌∙◌, arith}
use Rattle.std.proofs.lemmas.List.{replicate-append-replicate}
use Rattle.std.proofs.lemmas.Int.{ints}
use Rattle.ob_interface.specs.declared.scalar.ScalarType.{ScalarType}
use Rattle.ob_interface.specs.declared.scalar.ScalarType.TheVariants.{Integer, Boolean}
use Rattle.ob_typing.specs.Program.{DataType, Simple, Array, Record, Fields, no_field, field, Variable}
use Rattle.ob_meaning.specs.ByPositionValue.{Value, copies, initial, initial_fields}
use Rattle.ob_meaning.specs.ByNameValue.{first_scalar}
use Rattle.ob_meaning.specs.ByPositionStatements.{begun}
use Rattle.ob_code_scheme.specs.Types.{Scope, words, words_of_fields, extent, variables_scope, IsInteger, IsScalarOf, AreAll, IsValueOf, AreFields, FitsActivation}
use Rattle.ob_code_scheme.specs.Layout.{flat, flat_all}
use Rattle.ob_code_scheme.specs.Image.{position_words}

abbrev pub zeros : ℕ → List ℤ
zeros n = replicate n (pos 0)

pub zeros-add : (m n : ℕ) → zeros m ++ zeros n ≡ zeros (m + n)
zeros-add m n = replicate-append-replicate m n (pos 0)

pub zero_is_integer : IsInteger (pos 0)
zero_is_integer = record { low = omega (arith, ints); high = omega (arith, ints) }

are_copies : (Is : Value → Type 0) (v : Value) → Is v → (n : ℕ) → AreAll Is n (copies n v)
are_copies Is v h zero = tt
are_copies Is v h (suc n) = (h, are_copies Is v h n)

flat-copies : (v : Value) (size : ℕ) → flat v ≡ zeros size → (n : ℕ) → flat_all (copies n v) ≡ zeros (n * size)
flat-copies v size h zero = let none : 0 ≡ 0 * size = omega arith in ap zeros none
flat-copies v size h (suc n) =
    let more : size + n * size ≡ suc n * size = omega arith in
    ap (λ (ws : List ℤ). ws ++ flat_all (copies n v)) h
    ∙ ap (λ (ws : List ℤ). zeros size ++ ws) (flat-copies v size h n)
    ∙ zeros-add size (n * size)
    ∙ ap zeros more

pub first_scalar_is : (type : ScalarType) → IsScalarOf type (first_scalar type)
first_scalar_is Integer = zero_is_integer
first_scalar_is Boolean = tt

mutual
  pub initial_is : (type : DataType) → IsValueOf type (initial type)
  initial_is (Simple type) = first_scalar_is type
  initial_is (Array place n element) = are_copies (λ v. IsValueOf element v) (initial element) (initial_is element) n
  initial_is (Record place fields) = initial_fields_are fields

  initial_fields_are : (fields : Fields) → AreFields fields (initial_fields fields)
  initial_fields_are no_field = tt
  initial_fields_are (field name type rest) = (initial_is type, initial_fields_are rest)

first_word : (type : ScalarType) → flat (initial (Simple type)) ≡ zeros 1
first_word Integer = refl
first_word Boolean = refl

mutual
  pub flat-initial : (type : DataType) → flat (initial type) ≡ zeros (words type)
  flat-initial (Simple type) = first_word type
  flat-initial (Array place n element) = flat-copies (initial element) (words element) (flat-initial element) n
  flat-initial (Record place fields) = flat-initial_fields fields

  flat-initial_fields : (fields : Fields) → flat_all (initial_fields fields) ≡ zeros (words_of_fields fields)
  flat-initial_fields no_field = refl
  flat-initial_fields (field name type rest) =
      ap (λ (ws : List ℤ). ws ++ flat_all (initial_fields rest)) (flat-initial type)
      ∙ ap (λ (ws : List ℤ). zeros (words type) ++ ws) (flat-initial_fields rest)
      ∙ zeros-add (words type) (words_of_fields rest)

-- variables at their beginning, at any position
pub begun_fits : (all : List Scope) (k : ℕ) (variables : List Variable) → FitsActivation all k (variables_scope variables) (begun variables)
begun_fits all k [] = tt
begun_fits all k (v ∷ variables) = (initial_is v.type, begun_fits all k variables)

pub begun_words : (all : List Scope) (variables : List Variable) → position_words all (begun variables) ≡ zeros (extent (variables_scope variables))
begun_words all [] = refl
begun_words all (v ∷ variables) =
    ap (λ (ws : List ℤ). ws ++ position_words all (begun variables)) (flat-initial v.type)
    ∙ ap (λ (ws : List ℤ). zeros (words v.type) ++ ws) (begun_words all variables)
    ∙ zeros-add (words v.type) (extent (variables_scope variables))
