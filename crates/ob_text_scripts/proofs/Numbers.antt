-- Numbers in decimal digits are words of schedules.
use Rattle.std.proofs.Common.{◌≡◌, ℕ, ◌<◌, ◌≤◌, ◌^◌, true, false, List, [], ◌∷◌, decimal, refl, arith, ne_eqb}
use Rattle.std.specs.Char.{is_ascii_digit}
use Rattle.std.specs.List.{list_all}
use Rattle.std.proofs.lemmas.Bool.{and_parts}
use Rattle.std.proofs.lemmas.Bool.Decides.{nat_tests}
use Rattle.std.proofs.lemmas.Fmt.{digits_decimal, digits_value-decimal, decimal_nonempty, length-decimal-le}
use Rattle.std.proofs.lemmas.List.Elements.{All-cons, All-nil}
use Rattle.ob_scan.proofs.Numerals.{numerals}
use Rattle.ob_text_words.specs.Words.{IsDigits}
use Rattle.ob_text_scripts.proofs.ItemWords.{HasNoMark, is_mark}

-- what is written of a number of at most nine digits says it
pub nine_digits : (n : ℕ) → n < 10 ^ 9 → IsDigits 9 (decimal n) n
nine_digits n h =
    let small : n < 2 ^ 64 = omega (arith, h) in
    record {
      digits = digits_decimal numerals n small;
      some = omega (arith, decimal_nonempty n small);
      few = length-decimal-le 9 n (omega arith) (omega (arith, h)) small;
      spells = digits_value-decimal numerals n small;
    }

-- a digit parts no words or lines, and begins no comment
no_mark : (b : ℕ) → is_ascii_digit b ≡ true → is_mark b ≡ false
no_mark b digit =
    let least : 48 ≤ b = grind (arith, nat_tests) in
    rw (ne_eqb b 32 (λ e. omega (arith, e, least)), ne_eqb b 9 (λ e. omega (arith, e, least)), ne_eqb b 13 (λ e. omega (arith, e, least)), ne_eqb b 10 (λ e. omega (arith, e, least)), ne_eqb b 35 (λ e. omega (arith, e, least)))
    refl

pub no_marks : (w : List ℕ) → list_all is_ascii_digit w ≡ true → HasNoMark w
no_marks [] digits = All-nil (λ b. is_mark b ≡ false)
no_marks (b ∷ bs) digits =
    let p = and_parts (is_ascii_digit b) (list_all is_ascii_digit bs) digits in
    All-cons (λ b. is_mark b ≡ false) b bs (no_mark b p.0) (no_marks bs p.1)
