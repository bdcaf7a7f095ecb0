-- Words of decimal digits are numerals: their value is that of their digits, one after the other.
use Rattle.std.proofs.Common.{◌≡◌, ℕ, ◌+◌, ◌-◌, ◌*◌, true, List, fold, refl, ap, arith}
use Rattle.std.specs.Char.{is_ascii_digit, digit_value}
use Rattle.std.specs.List.{list_all}
use Rattle.std.proofs.lemmas.Bool.{and_parts, and_from}
use Rattle.std.proofs.lemmas.Bool.Decides.{nat_tests}
use Rattle.std.proofs.lemmas.Str.Parse.{IsDigitsTest, FoldsDigits, IsNumeralModel, numerals_by_fold}
use Rattle.ob_scan.specs.Spelling.{number_value}

abbrev pub AreDigits : List ℕ → Type 0
AreDigits ds = list_all is_ascii_digit ds ≡ true

digits_test : IsDigitsTest AreDigits
digits_test = record {
  empty = refl;
  parts = λ c cs h.
      (let p = and_parts (is_ascii_digit c) (list_all is_ascii_digit cs) h in
      let d : is_ascii_digit c ≡ true = p.0 in
      ((grind (arith, nat_tests), grind (arith, nat_tests)), p.1));
  more = λ c cs k h. and_from (is_ascii_digit c) (list_all is_ascii_digit cs) (grind (arith, nat_tests)) h;
}

abbrev value_after : ℕ → List ℕ → ℕ
value_after = fold (λ value digit. value * 10 + digit_value digit)

folds : FoldsDigits value_after
folds = record {
  empty = λ n. refl;
  more = λ n c cs k. (let e : digit_value c ≡ c - 48 = grind (arith, nat_tests) in ap (λ d. value_after (n * 10 + d) cs) e);
}

pub numerals : IsNumeralModel AreDigits number_value
numerals = numerals_by_fold AreDigits digits_test value_after folds
