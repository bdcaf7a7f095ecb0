-- A word names one call at most, and words one list of calls.
use Rattle.std.proofs.Common.{◌≡◌, ℕ, ◌<◌, ◌^◌, List, [], ◌∷◌, ◌++◌, length, take, drop, true, refl, sym, ◌∙◌, ap, ap₂, subst}
use Rattle.std.proofs.Math.Seq.{take-append_seam, drop-append_seam}
use Rattle.std.specs.Char.{is_ascii_digit}
use Rattle.std.specs.List.{list_all, prefix_len}
use Rattle.ob_scan.specs.Spelling.{number_value}
use Rattle.ob_text_words.specs.Words.{IsNumeral, Word}
use Rattle.ob_text_words.proofs.DigitParts.{digits_before-mark}
use Rattle.ob_text_values_reading.specs.CallNames.{AreIds, IsId, id, more, none}
use Rattle.wf_history.specs.declared.event.CallId.{CallId}

pub one_numeral : {v w : Word} {m n : ℕ} → v ≡ w → IsNumeral v m → IsNumeral w n → m ≡ n
one_numeral e h k = sym h.spells ∙ ap number_value e ∙ k.spells

tail_of : {a b : ℕ} {xs ys : Word} → a ∷ xs ≡ b ∷ ys → xs ≡ ys
tail_of e = cc

-- the digits in front of a point are those in front of it
same_parts : (first second first' second' : Word) → list_all is_ascii_digit first ≡ true → list_all is_ascii_digit first' ≡ true →
    first ++ 46 ∷ second ≡ first' ++ 46 ∷ second' → (first ≡ first') × (second ≡ second')
same_parts first second first' second' all all' e =
    let long : length first ≡ length first' =
    sym (digits_before-mark first 46 second all refl) ∙ ap (prefix_len is_ascii_digit) e ∙ digits_before-mark first' 46 second' all' refl in
    let fronts : first ≡ first' = sym (take-append_seam first (46 ∷ second)) ∙ ap₂ take long e ∙ take-append_seam first' (46 ∷ second') in
    let backs : 46 ∷ second ≡ 46 ∷ second' = sym (drop-append_seam first (46 ∷ second)) ∙ ap₂ drop long e ∙ drop-append_seam first' (46 ∷ second') in
    (fronts, tail_of backs)

abbrev named : ℕ → ℕ → CallId
named p k = record { process = p; number = k }

-- what a word that names a call is
record Parts (processes : ℕ) (word : Word) (i : CallId) : Type 0 where
  first : Word
  second : Word
  p : ℕ
  k : ℕ
  word_is : word ≡ first ++ 46 ∷ second
  is : i ≡ named p k
  process : IsNumeral first p
  below : p < processes
  number : IsNumeral second k
  small : k < 2 ^ 64

parts_of : {processes : ℕ} {word : Word} {i : CallId} → IsId processes word i → Parts processes word i
parts_of (id {first = first} {second = second} {p = p} {k = k} process below number small) =
    record { first = first; second = second; p = p; k = k; word_is = refl; is = refl; process = process; below = below; number = number; small = small }

pub id_below : {processes : ℕ} {word : Word} {i : CallId} → IsId processes word i → i.process < processes
id_below {processes} h = let a = parts_of h in subst (λ (i : CallId). i.process < processes) (sym a.is) a.below

pub one_id : {processes : ℕ} {word : Word} {i j : CallId} → IsId processes word i → IsId processes word j → i ≡ j
one_id h k =
    let a = parts_of h in
    let b = parts_of k in
    let same = same_parts a.first a.second b.first b.second a.process.digits b.process.digits (sym a.word_is ∙ b.word_is) in
    a.is ∙ ap₂ named (one_numeral same.0 a.process b.process) (one_numeral same.1 a.number b.number) ∙ sym b.is

module _ (processes : ℕ) where
  pub one_ids : {ws : List Word} {xs ys : List CallId} → AreIds processes ws xs → AreIds processes ws ys → xs ≡ ys
  one_ids none none = refl
  one_ids (more i h) (more j k) =
      let first = one_id i j in
      let rest = one_ids h k in
      cc
