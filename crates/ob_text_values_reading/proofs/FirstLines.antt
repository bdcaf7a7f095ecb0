-- A text and its first line.
use Rattle.std.proofs.Common.{◌≡◌, ℕ, ◌+◌, ◌-◌, ◌<◌, ◌≤◌, ◌==◌, List, [], ◌∷◌, Option, Some, None, Bool, true, false, cond, length, take, drop, get_or, map, refl, sym, ap, ◌∙◌, subst, arith}
use Rattle.std.specs.List.{position, position_or_len, slice_split}
use Rattle.std.proofs.lemmas.Bool.{ltb-false}
use Rattle.std.proofs.lemmas.Bool.Decides.{nat_tests}
use Rattle.std.proofs.lemmas.List.{length-map}
use Rattle.std.proofs.lemmas.List.Quantifiers.{position-Some}
use Rattle.std.proofs.lemmas.List.Splits.{length-slice_split, slice_split_first, slice_split_none}
use Rattle.std.proofs.lemmas.List.Sums.{count_by-le-length, fails_before_first, position_or_len_is}
use Rattle.std.proofs.Math.Dec.{ltb}
use Rattle.memchr.specs.Find.{IsFirstByte, is_byte}
use Rattle.ob_text_words.specs.Words.{lines, words}

-- the first element that passes ends the first part
pub part_at : {X : Type 0} (p : X → Bool) (xs : List X) (d : X) (i : ℕ) → position p xs ≡ Some i → slice_split p xs ≡ take i xs ∷ slice_split p (drop (i + 1) xs)
part_at p xs d i e =
    let found = position-Some p xs i d e in
    let within : i < length xs = found.0 in
    let below : i ≤ length xs = omega arith in
    let is : position_or_len p xs ≡ i = position_or_len_is p xs i d below found.2 (λ w. found.1) in
    let first : position_or_len p xs < length xs = rw is within in
    subst (λ (n : ℕ). slice_split p xs ≡ take n xs ∷ slice_split p (drop (n + 1) xs)) is (slice_split_first p xs d first)

none_told : (b : Bool) (n : ℕ) → cond b (Some n) None ≡ None → b ≡ false
none_told true n e = absurd (cc)
none_told false n e = refl

-- where none passes there is one part
pub only_part : {X : Type 0} (p : X → Bool) (xs : List X) → position p xs ≡ None → slice_split p xs ≡ xs ∷ []
only_part p xs e =
    let past : length xs ≤ position_or_len p xs = ltb-false (position_or_len p xs) (length xs) (none_told (ltb (position_or_len p xs) (length xs)) (position_or_len p xs) e) in
    slice_split_none p xs (λ k d within. fails_before_first p xs k d (omega (arith, past, within)))

pub less_none : (n : ℕ) → n - 0 ≡ n
less_none n = omega arith

-- a text has at most one line more than bytes
pub few_lines : (text : List ℕ) → length (map words (lines text)) ≤ length text + 1
few_lines text = rw length-map (omega (arith, length-slice_split (λ b. b == 10) text, count_by-le-length (λ b. b == 10) text))

not_true : (b : Bool) → ¬ (b ≡ true) → b ≡ false
not_true true h = absurd (h refl)
not_true false h = refl

-- what a search for a byte finds
pub found_first : (text : List ℕ) (r : Option ℕ) → IsFirstByte (is_byte 10) text r → r ≡ position (λ b. b == 10) text
found_first text (Some i) h =
    let high : i < length text = h.0.high in
    let below : i ≤ length text = omega arith in
    let is : position_or_len (λ b. b == 10) text ≡ i =
    position_or_len_is (λ b. b == 10) text i 0 below (λ k lt. not_true (get_or text k 0 == 10) (h.0.before k (omega arith) lt)) (λ w. h.1) in
    let within : ltb i (length text) ≡ true = grind (arith, nat_tests) in
    let told : cond (ltb i (length text)) (Some i) None ≡ Some i = rw within refl in
    sym (ap (λ n. cond (ltb n (length text)) (Some n) None) is ∙ told)
found_first text None h =
    let n = length text in
    let is : position_or_len (λ b. b == 10) text ≡ n =
    position_or_len_is (λ b. b == 10) text n 0 (omega arith) (λ k lt. not_true (get_or text k 0 == 10) (h k (omega arith) lt)) (λ w. absurd (omega (arith, w))) in
    let past : ltb n n ≡ false = grind (arith, nat_tests) in
    let told : cond (ltb n n) (Some n) None ≡ None = rw past refl in
    sym (ap (λ m. cond (ltb m n) (Some m) None) is ∙ told)
