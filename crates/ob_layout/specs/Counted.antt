-- Counts that stop at the greatest number of 64 bits.
use Rattle.std.specs.Prelude.{ℕ, min}

abbrev pub counted : ℕ → ℕ
counted n = min n 0xffff_ffff_ffff_ffff
