-- Numbers in decimal digits are words that say them.
use Rattle.std.proofs.Common.{◌≡◌, ℕ, ◌+◌, ◌-◌, ◌*◌, ◌<◌, ◌≤◌, ◌^◌, suc, true, ℤ, pos, negsuc, neg_ℤ, ◌≤ℤ◌, List, decimal, refl, ap, arith}
use Rattle.std.specs.Fmt.{signed_decimal}
use Rattle.std.proofs.lemmas.Fmt.{digits_decimal, digits_value-decimal, decimal_nonempty, length-decimal-le}
use Rattle.std.proofs.lemmas.Int.{ints}
use Rattle.ob_carry.specs.Values as Ranges
use Rattle.ob_scan.proofs.Numerals.{numerals}
use Rattle.ob_text_words.specs.Words.{IsDigits, IsInteger, IsNumeral, positive, negative}

-- what is written of a number is its numeral
pub numeral : (n : ℕ) → n < 2 ^ 64 → IsNumeral (decimal n) n
numeral n small = record { digits = digits_decimal numerals n small; some = omega (arith, decimal_nonempty n small); spells = digits_value-decimal numerals n small }

few_digits : (n : ℕ) → n ≤ 2147483648 → IsDigits 10 (decimal n) n
few_digits n h =
    let small : n < 2 ^ 64 = omega (arith, h) in
    record {
      digits = digits_decimal numerals n small;
      some = omega (arith, decimal_nonempty n small);
      few = length-decimal-le 10 n (omega arith) (omega (arith, h)) small;
      spells = digits_value-decimal numerals n small;
    }

pub below_most : (n : ℕ) → pos n ≤ℤ pos 2147483647 → n ≤ 2147483647
below_most n h = omega (arith, ints)

pub above_least : (n : ℕ) → neg_ℤ (pos 2147483648) ≤ℤ negsuc n → n ≤ 2147483647
above_least n h = omega (arith, ints)

-- what is written of an INTEGER says it
pub integer_text : (z : ℤ) → Ranges.IsInteger z → IsInteger (signed_decimal z) z
integer_text (pos n) h = let most = below_most n h.high in positive (few_digits n (omega (arith, most))) most
integer_text (negsuc n) h =
    let most = above_least n h.low in
    negative (few_digits (suc n) (omega (arith, most))) (omega (arith, most))
