-- The limits on a text, its names and its numbers.
use Rattle.std.specs.Prelude.{ℕ}

-- the most bytes that a text may have
abbrev pub longest_text : ℕ
longest_text = 65536

-- the most bytes that a name may have
abbrev pub longest_name : ℕ
longest_name = 64

-- the largest number
abbrev pub largest_number : ℕ
largest_number = 2147483647
