-- The words of results, one after the other.
use Rattle.std.proofs.Common.{◌≡◌, ℕ, suc, ◌+◌, ◌<◌, ◌≤◌, Some, Bool, true, false, List, [], ◌∷◌, ◌++◌, map, length, take, drop, set, get_or, sym, ap, ◌∙◌, arith}
use Rattle.std.specs.Prelude.{ℤ, pos, ◌↔◌, IsTrue, if◌then◌else◌, slice_get}
use Rattle.std.specs.List.{range_with_len}
use Rattle.std.proofs.lemmas.List.{drop_more, take_more_set}
use Rattle.std.proofs.lemmas.List.FromFn.{get_or-map-range_with_len, length-map-range_with_len, map-range_with_len_more}
use Rattle.ob_code_correct.specs.CodeMeaning.{Entrance, first_word, most, other_words, result_count, scalar_in, values_of}
use Rattle.ob_interface.specs.declared.export.Formal.{Formal}
use Rattle.ob_code_correct.proofs.ExportLaw.{most_has}
use Rattle.ob_interface.specs.Call.{Answers}
use Rattle.ob_interface.specs.declared.scalar.Scalar.{Scalar}

-- one more result
pub results_more : (f : ℕ → ℤ) (words : List ℤ) (i : ℕ) (w : ℤ) → i < length words → w ≡ f i → take i words ≡ map f (range_with_len 0 i) →
    take (i + 1) (set words i w) ≡ map f (range_with_len 0 (i + 1))
results_more f words i w inside is so_far =
    take_more_set words i w inside
    ∙ ap (λ (ws : List ℤ). ws ++ w ∷ []) so_far
    ∙ ap (λ (x : ℤ). map f (range_with_len 0 i) ++ x ∷ []) is
    ∙ sym (map-range_with_len_more f 0 i i (omega arith))

-- a reply has these values just where what is read from its words are these
pub replied_so : (b : Bool) (read values others : List Scalar) → read ≡ values → IsTrue b ↔ (read ≡ others) → IsTrue b ↔ (Answers values ≡ Answers others)
replied_so b read values others same decides = (λ t. ap Answers (sym same ∙ decides.0 t), λ h. let is : values ≡ others = cc in decides.1 (same ∙ is))

-- ---- results that are left, of parameters that are left

module _ (f : ℕ → ℤ) (n : ℕ) where
  abbrev results : List ℤ
  results = map f (range_with_len 0 n)

  -- the result at a place stands before those behind it
  next_result : (k : ℕ) → k < n → drop k results ≡ f k ∷ drop (k + 1) results
  next_result k below =
      drop_more results k (pos 0) (omega (arith, length-map-range_with_len f 0 n, below))
      ∙ ap (λ (w : ℤ). w ∷ drop (k + 1) results) (get_or-map-range_with_len f 0 n k k (pos 0) below (omega arith))

  module _ (parameters : List Formal) (i : ℕ) (d : Formal) (within : i < length parameters) where
    abbrev p : Formal
    p = get_or parameters i d

    front : drop i parameters ≡ p ∷ drop (i + 1) parameters
    front = drop_more parameters i d within

    -- a VAR parameter has the first one
    pub count_var : p.is_var ≡ true → result_count (drop i parameters) ≡ suc (result_count (drop (i + 1) parameters))
    count_var is = ap result_count front ∙ ap (λ (b : Bool). if b then suc (result_count (drop (i + 1) parameters)) else result_count (drop (i + 1) parameters)) is

    pub values_var : (k : ℕ) → p.is_var ≡ true → k < n →
        values_of (drop i parameters) (drop k results) ≡ scalar_in p.scalar_type (f k) ∷ values_of (drop (i + 1) parameters) (drop (k + 1) results)
    values_var k is below =
        ap (λ (ps : List Formal). values_of ps (drop k results)) front
        ∙ ap (values_of (p ∷ drop (i + 1) parameters)) (next_result k below)
        ∙ ap (λ (b : Bool). if b then scalar_in p.scalar_type (f k) ∷ values_of (drop (i + 1) parameters) (drop (k + 1) results) else values_of (drop (i + 1) parameters) (f k ∷ drop (k + 1) results)) is

    -- and another one none
    pub count_value : p.is_var ≡ false → result_count (drop i parameters) ≡ result_count (drop (i + 1) parameters)
    count_value is = ap result_count front ∙ ap (λ (b : Bool). if b then suc (result_count (drop (i + 1) parameters)) else result_count (drop (i + 1) parameters)) is

    pub values_value : (k : ℕ) → p.is_var ≡ false → values_of (drop i parameters) (drop k results) ≡ values_of (drop (i + 1) parameters) (drop k results)
    values_value k is =
        ap (λ (ps : List Formal). values_of ps (drop k results)) front
        ∙ ap (λ (b : Bool). if b then scalar_in p.scalar_type (first_word (drop k results)) ∷ values_of (drop (i + 1) parameters) (other_words (drop k results)) else values_of (drop (i + 1) parameters) (drop k results)) is

-- lists that begin with the same value are the same just where the others are
pub same_first : (read : List Scalar) (x : Scalar) (xs : List Scalar) (y : Scalar) (ys : List Scalar) → read ≡ x ∷ xs → read ≡ y ∷ ys → x ≡ y
same_first read x xs y ys a b = let e : x ∷ xs ≡ y ∷ ys = sym a ∙ b in cc

pub same_rest : (read : List Scalar) (x : Scalar) (xs : List Scalar) (y : Scalar) (ys others : List Scalar) (P : Type 0) → read ≡ x ∷ xs → others ≡ y ∷ ys → x ≡ y → (read ≡ others) ↔ P → (xs ≡ ys) ↔ P
same_rest read x xs y ys others P a b first so = (
  λ e. so.0 (a ∙ ap (λ (z : Scalar). z ∷ xs) first ∙ ap (λ (zs : List Scalar). y ∷ zs) e ∙ sym b),
  λ p. let e : x ∷ xs ≡ y ∷ ys = sym a ∙ so.1 p ∙ b in cc,
)

-- there are results enough for an export
pub enough_for : (exports : List Entrance) (i : ℕ) (x : Entrance) → slice_get exports i ≡ Some x → (parameters : List Formal) → parameters ≡ x.parameters → result_count parameters ≤ most result_count exports
enough_for exports i x there parameters are =
    let has = most_has result_count exports i x there in
    let same = ap result_count are in
    omega (arith, has, same)
