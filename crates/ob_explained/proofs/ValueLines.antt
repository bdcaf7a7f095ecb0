-- The lines of values, line by line.
use Rattle.std.proofs.Common.{◌≡◌, ◌∙◌, refl, ap, sym, ℕ, suc, ◌+◌, ◌<◌, Bool, true, false, IsTrue, List, [], ◌∷◌, length, drop, get_or, slice_get, Some, add-one, drop-cons, inl, inr, if◌then◌else◌}
use Rattle.std.proofs.lemmas.Bool.Decides.{eqb_tells}
use Rattle.std.specs.Prelude.{◌↔◌}
use Rattle.ob_text_values_reading.specs.Variables.{BeginsWith}
use Rattle.ob_text_words.specs.Words.{Word}
use Rattle.ob_explained.specs.ValueLines.{lines_from, tells_value}

-- ---- whether a line tells a value

pub tells : (line : List Word) → BeginsWith 86 line → tells_value line ≡ true
tells line h = ap tells_value h.parts

pub begins_so : (line : List Word) → tells_value line ≡ true → BeginsWith 86 line
begins_so [] h = absurd cc
begins_so ([] ∷ others) h = absurd cc
begins_so ((b ∷ word) ∷ others) h = elim (eqb_tells b 86) [
  | inl same ↦ record { more = word; ws = others; parts = ap (λ (x : ℕ). (x ∷ word) ∷ others) same.1 }
  | inr other ↦ let bad : false ≡ true = sym other.0 ∙ h in cc
]

same_test : (a b : Bool) → (a ≡ true → b ≡ true) → (b ≡ true → a ≡ true) → a ≡ b
same_test true b there back = sym (there refl)
same_test false true there back = back refl
same_test false false there back = refl

pub told_by : (b : Bool) (line : List Word) → IsTrue b ↔ BeginsWith 86 line → b ≡ tells_value line
told_by b line h = same_test b (tells_value line) (λ e. tells line (h.0 e)) (λ e. h.1 (begins_so line e))

-- ---- from one line on

module _ (all : List (List Word)) (n : ℕ) (line : List Word) (within : n < length all) (at : line ≡ get_or all n line) where
  here : drop n all ≡ line ∷ drop (n + 1) all
  here = drop-cons all n line within ∙ ap (λ l. l ∷ drop (suc n) all) (sym at) ∙ ap (λ k. line ∷ drop k all) (sym (add-one n))

  from_here : (t : Bool) → tells_value line ≡ t →
      lines_from (suc n) (drop n all) ≡ (if t then suc n ∷ lines_from (suc (n + 1)) (drop (n + 1) all) else lines_from (suc (n + 1)) (drop (n + 1) all))
  from_here t is =
      ap (lines_from (suc n)) here
      ∙ ap (λ (b : Bool). if b then suc n ∷ lines_from (suc (suc n)) (drop (n + 1) all) else lines_from (suc (suc n)) (drop (n + 1) all)) is
      ∙ ap (λ (k : ℕ). if t then suc n ∷ lines_from (suc k) (drop (n + 1) all) else lines_from (suc k) (drop (n + 1) all)) (sym (add-one n))

  pub first_told : tells_value line ≡ true → slice_get (lines_from (suc n) (drop n all)) 0 ≡ Some (n + 1)
  first_told is = ap (λ (ns : List ℕ). slice_get ns 0) (from_here true is) ∙ ap Some (sym (add-one n))

  pub later_told : (k : ℕ) → tells_value line ≡ true →
      slice_get (lines_from (suc n) (drop n all)) (suc k) ≡ slice_get (lines_from (suc (n + 1)) (drop (n + 1) all)) k
  later_told k is = ap (λ (ns : List ℕ). slice_get ns (suc k)) (from_here true is)

  pub not_told : (k : ℕ) → tells_value line ≡ false →
      slice_get (lines_from (suc n) (drop n all)) k ≡ slice_get (lines_from (suc (n + 1)) (drop (n + 1) all)) k
  not_told k is = ap (λ (ns : List ℕ). slice_get ns k) (from_here false is)
