-- Words that fit, one by one.
use Rattle.std.proofs.Common.{◌≡◌, ◌≢◌, ℕ, ◌+◌, ◌<◌, ◌≤◌, List, Bor, length, map, get_or, slice_get, Some, ◌⊎◌, inl, inr, refl, sym, subst, ap, ◌∙◌, arith, option_map}
use Rattle.std.proofs.lemmas.List.{length-map}
use Rattle.std.proofs.lemmas.Option.{slice_get-get_or, slice_get-map}
use Rattle.ob_interface.specs.declared.scalar.Scalar.{Scalar}
use Rattle.ob_interface.specs.declared.scalar.ScalarType.{ScalarType}
use Rattle.ob_text_words.specs.Words.{Word}
use Rattle.ob_text_words.specs.Values.{IsValue}
use Rattle.ob_explain_arguments.specs.Misfits.{FitsAt, FitsUpTo, MisfitsAt}

abbrev read : List (Bor Word) → List Word
read words = map (λ (w : Bor Word). w.now) words

as_long : (words : List (Bor Word)) → length (read words) ≡ length words
as_long words = length-map _ _

pub none_yet : (types : List ScalarType) (words : List (Bor Word)) → length words ≡ length types → FitsUpTo types (read words) 0
none_yet types words e = record { as_many = as_long words ∙ e; fit = λ k h. absurd (omega (arith, h)) }

pub other_count : (types : List ScalarType) (words : List (Bor Word)) → length words ≢ length types → length (read words) ≢ length types
other_count types words differ e = differ (sym (as_long words) ∙ e)

last_or_before : (k n : ℕ) → k < n + 1 → (k < n) ⊎ (k ≡ n)
last_or_before k n h = grind (arith, h)

pub one_more : (types : List ScalarType) (ws : List Word) (n : ℕ) → FitsUpTo types ws n → FitsAt types ws n → FitsUpTo types ws (n + 1)
one_more types ws n so_far here = record {
  as_many = so_far.as_many;
  fit = λ k h.
      elim (last_or_before k n h) [
        | inl before ↦ so_far.fit k before
        | inr same ↦ subst (λ (i : ℕ). FitsAt types ws i) (sym same) here
      ];
}

pub up_to_all : (types : List ScalarType) (words : List (Bor Word)) (n : ℕ) → FitsUpTo types (read words) n → length words ≤ n
    → FitsUpTo types (read words) (length (read words))
up_to_all types words n so_far past =
    record { as_many = so_far.as_many; fit = λ k h. so_far.fit k (omega (arith, h, past, as_long words)) }

-- the word and the type of a number

word_there : (words : List (Bor Word)) (n : ℕ) (w d : Bor Word) → n < length words → w ≡ get_or words n d → slice_get (read words) n ≡ Some w.now
word_there words n w d below is =
    slice_get-map (λ (v : Bor Word). v.now) words n
    ∙ ap (option_map (λ (v : Bor Word). v.now)) (slice_get-get_or words n d below ∙ ap (λ (v : Bor Word). Some v) (sym is))

type_there : (types : List ScalarType) (n : ℕ) (t d : ScalarType) → n < length types → t ≡ get_or types n d → slice_get types n ≡ Some t
type_there types n t d below is = slice_get-get_or types n d below ∙ ap (λ (v : ScalarType). Some v) (sym is)

pub fits_here : (types : List ScalarType) (words : List (Bor Word)) (n : ℕ) (t t' : ScalarType) (w w' : Bor Word) (s : Scalar)
    → n < length types → n < length words → t ≡ get_or types n t' → w ≡ get_or words n w' → IsValue t w.now s → FitsAt types (read words) n
fits_here types words n t t' w w' s typed said is_type is_word says = record {
  type = t;
  word = w.now;
  value = s;
  wanted = type_there types n t t' typed is_type;
  there = word_there words n w w' said is_word;
  says = says;
}

same_type : (t u : ScalarType) → Some t ≡ Some u → t ≡ u
same_type t u e = cc

pub misfits_here : (types : List ScalarType) (words : List (Bor Word)) (n : ℕ) (t : ScalarType) (w : Bor Word)
    → n < length types → n < length words → ((s : Scalar) → IsValue (get_or types n t) (get_or words n w).now s → ⊥)
    → (wanted : ScalarType) → slice_get types n ≡ Some wanted → MisfitsAt types (read words) n wanted
misfits_here types words n t w typed said says_none wanted here = record {
  word = (get_or words n w).now;
  wanted = here;
  there = word_there words n (get_or words n w) w said refl;
  says_none = λ s h.
      says_none s
      (subst (λ (u : ScalarType). IsValue u (get_or words n w).now s)
      (sym (same_type (get_or types n t) wanted (sym (type_there types n (get_or types n t) t typed refl) ∙ here))) h);
}
