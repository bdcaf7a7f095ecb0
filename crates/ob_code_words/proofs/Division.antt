-- The quotient that is rounded down, and the rest.
use Rattle.std.proofs.Common.{◌≡◌, ℕ, ◌<◌, false, cond, ℤ, pos, negsuc, ◌+ℤ◌, ◌*ℤ◌, ◌≤ℤ◌, ◌<ℤ◌, ap, arith}
use Rattle.std.proofs.lemmas.Int.{ints}
use Rattle.std.proofs.Math.Nat.{div-add-mod}
use Rattle.std.specs.Prelude.{int_le}
use Rattle.std.specs.Int.{int_div_euclid, int_rem_euclid}
use Rattle.ob_code_words.specs.Words.{Gives, Traps}
use Rattle.ob_code_words.specs.Laws.{DividesAll}

-- the parts make the whole
whole_of : (x : ℤ) (n : ℕ) → 0 < n → x ≡ int_div_euclid x (pos n) *ℤ pos n +ℤ int_rem_euclid x (pos n)
whole_of (pos a) n h = omega (arith, ints, div-add-mod a n)
whole_of (negsuc a) n h = omega (arith, ints, div-add-mod a n)

rest_from : (x : ℤ) (n : ℕ) → 0 < n → pos 0 ≤ℤ int_rem_euclid x (pos n)
rest_from (pos a) n h = omega (arith, ints)
rest_from (negsuc a) n h = omega (arith, ints)

rest_below : (x : ℤ) (n : ℕ) → 0 < n → int_rem_euclid x (pos n) <ℤ pos n
rest_below (pos a) n h = omega (arith, ints)
rest_below (negsuc a) n h = omega (arith, ints)

-- a divisor above 0 is no trap
no_trap : (n : ℕ) → 0 < n → int_le (pos n) (pos 0) ≡ false
no_trap n h = grind (arith, ints)

pub divides : DividesAll
divides x (pos n) h =
    let above : 0 < n = omega (arith, ints) in
    record {
      quotient = int_div_euclid x (pos n);
      rest = int_rem_euclid x (pos n);
      divide = ap (λ b. cond b (Traps 3) (Gives (int_div_euclid x (pos n)))) (no_trap n above);
      modulo = ap (λ b. cond b (Traps 3) (Gives (int_rem_euclid x (pos n)))) (no_trap n above);
      whole = whole_of x n above;
      from_zero = rest_from x n above;
      below = rest_below x n above;
    }
divides x (negsuc n) h = absurd (omega (arith, ints))
