-- Counts of words that are told or not. One that passes 2^64 - 1 is not.
use Rattle.std.specs.Prelude.{ℕ, ◌+◌, ◌*◌, ◌^◌, nat_lt, max, Option, Some, None, if◌then◌else◌}

abbrev pub fitting : ℕ → Option ℕ
fitting n = if nat_lt n (2 ^ 64) then Some n else None

abbrev pub sum_of : Option ℕ → Option ℕ → Option ℕ
sum_of (Some a) (Some b) = fitting (a + b)
sum_of _ _ = None

abbrev pub product_of : Option ℕ → Option ℕ → Option ℕ
product_of (Some a) (Some b) = fitting (a * b)
product_of _ _ = None

-- where words are counted for a limit, a record without fields has one
abbrev pub at_least_one : Option ℕ → Option ℕ
at_least_one None = None
at_least_one (Some words) = Some (max 1 words)
