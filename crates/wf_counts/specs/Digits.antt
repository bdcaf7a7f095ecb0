-- Counts as the digits of a number.
use Rattle.std.specs.Prelude.{◌≡◌, ℕ, zero, suc, ◌+◌, ◌*◌, ◌/◌, ◌%◌, ◌^◌, ◌<◌, List, [], ◌∷◌, length, Bool, true, ◌&&◌, cond, nat_lt, get_or, slice_set}
use Rattle.std.specs.Hash as fed

-- the lowest digits of a number, so many, the lowest one first
abbrev pub digits : (many number : ℕ) → List ℕ
digits zero number = []
digits (suc many) number = number % 256 ∷ digits many (number / 256)

-- the number that has these digits
abbrev pub number_of : List ℕ → ℕ
number_of [] = 0
number_of (count ∷ counts) = count + 256 * number_of counts

-- whether each is a digit
abbrev pub are_digits : List ℕ → Bool
are_digits [] = true
are_digits (count ∷ counts) = nat_lt count 256 && are_digits counts

-- whether the counts are the digits of a number of 64 bits
abbrev pub fits : List ℕ → Bool
fits counts = nat_lt (length counts) 9 && are_digits counts

-- what counts feed a hasher
abbrev pub counts_fed : List ℕ → fed.HashWrites
counts_fed counts = cond (fits counts) (fed.u64 (number_of counts)) (fed.slice fed.u32 counts)

-- one more at a place
abbrev pub one_more_at : (place : ℕ) → List ℕ → List ℕ
one_more_at place counts = slice_set counts place (get_or counts place 0 + 1)

-- a number of so many digits has one more at a place
pub record IsRaised (many number place more : ℕ) : Type 0 where
  pub small : more < 2 ^ (8 * many)
  pub raised : digits many more ≡ one_more_at place (digits many number)
