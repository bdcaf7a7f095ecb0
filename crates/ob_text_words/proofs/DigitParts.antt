-- Digits in front of other bytes, and the values of the first digits of a number.
use Rattle.std.proofs.Common.{◌≡◌, ℕ, ◌+◌, ◌*◌, ◌≤◌, ◌<◌, Bool, ◌&&◌, List, [], ◌∷◌, ◌++◌, length, take, drop, true, false, refl, sym, ◌∙◌, ap, ap₂, arith, ◌^◌, get_or}
use Rattle.std.proofs.lemmas.Bool.{false≢true}
use Rattle.std.proofs.lemmas.List.{take-append-drop, take_more}
use Rattle.std.proofs.lemmas.List.Sums.{fold-append, fold_push}
use Rattle.std.proofs.lemmas.List.Folds.{length-prefix_len}
use Rattle.std.proofs.Math.Seq.{take-append_seam, drop-append_seam}
use Rattle.std.specs.Char.{is_ascii_digit, digit_value}
use Rattle.std.specs.List.{list_all, prefix_len, fold}
use Rattle.ob_scan.specs.Spelling.{number_value}

abbrev digits_before : List ℕ → ℕ
digits_before = prefix_len is_ascii_digit

both : (a b : Bool) → (a && b) ≡ true → (a ≡ true) × (b ≡ true)
both true b h = (refl, h)
both false b h = absurd (false≢true h)

all_parts : (x : ℕ) (xs : List ℕ) → list_all is_ascii_digit (x ∷ xs) ≡ true → (is_ascii_digit x ≡ true) × (list_all is_ascii_digit xs ≡ true)
all_parts x xs h = both (is_ascii_digit x) (list_all is_ascii_digit xs) h

-- as many digits as stand before the first other byte
pub digits_before-mark : (first : List ℕ) (mark : ℕ) (behind : List ℕ) → list_all is_ascii_digit first ≡ true → is_ascii_digit mark ≡ false →
    digits_before (first ++ mark ∷ behind) ≡ length first
digits_before-mark [] mark behind all other = rw other refl
digits_before-mark (x ∷ first) mark behind all other =
    let p = all_parts x first all in
    let more = digits_before-mark first mark behind p.1 other in
    rw p.0 (omega arith)

-- more digits make no smaller number
after-le : (value : ℕ) (ds : List ℕ) → value ≤ fold (λ v d. v * 10 + digit_value d) value ds
after-le value [] = omega arith
after-le value (d ∷ ds) =
    let more = after-le (value * 10 + digit_value d) ds in
    omega arith

pub number_value-take : (i : ℕ) (ds : List ℕ) → number_value (take i ds) ≤ number_value ds
number_value-take i ds =
    let parts : number_value ds ≡ fold (λ v d. v * 10 + digit_value d) (number_value (take i ds)) (drop i ds) =
    ap number_value (sym (take-append-drop i ds)) ∙ fold-append _ 0 (take i ds) (drop i ds) in
    let more = after-le (number_value (take i ds)) (drop i ds) in
    omega arith

-- with the next digit the number is too large
pub too_large : (ds : List ℕ) (i : ℕ) → i < length ds → 2 ^ 64 ≤ number_value (take i ds) * 10 + digit_value (get_or ds i 0) → 2 ^ 64 ≤ number_value ds
too_large ds i below large =
    let next : number_value (take (i + 1) ds) ≡ number_value (take i ds) * 10 + digit_value (get_or ds i 0) =
    ap number_value (take_more ds i 0 below) ∙ fold_push _ 0 (take i ds) (get_or ds i 0) in
    let more = number_value-take (i + 1) ds in
    omega arith

-- a word split behind its first digits
pub split_here : (word : List ℕ) (n : ℕ) (front back : List ℕ) → n ≡ length (take (digits_before word) word) → front ≡ take n word → back ≡ drop n word →
    (first : List ℕ) (mark : ℕ) (behind : List ℕ) → word ≡ first ++ mark ∷ behind → list_all is_ascii_digit first ≡ true → is_ascii_digit mark ≡ false →
    (front ≡ first) × (back ≡ mark ∷ behind)
split_here word n front back counted f b first mark behind is all other =
    let long : n ≡ length first = counted ∙ length-prefix_len is_ascii_digit word ∙ ap digits_before is ∙ digits_before-mark first mark behind all other in
    (f ∙ ap₂ take long is ∙ take-append_seam first (mark ∷ behind), b ∙ ap₂ drop long is ∙ drop-append_seam first (mark ∷ behind))
