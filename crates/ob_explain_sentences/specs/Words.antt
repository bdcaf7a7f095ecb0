-- Words of a text.
use Rattle.std.specs.Prelude.{ℕ, ◌==◌, ◌&&◌, not, Bool, false, List, [], ◌∷◌, map, slice_get, bytes_eq, Option, Some, None, if◌then◌else◌}
use Rattle.std.specs.List.{take_while}
use Rattle.std.specs.Char.{is_ascii_alphabetic, is_ascii_alphanumeric, to_ascii_lowercase}

-- the name or keyword that bytes begin with
abbrev pub word_at : List ℕ → List ℕ
word_at [] = []
word_at (b ∷ bs) = if is_ascii_alphabetic b then take_while is_ascii_alphanumeric (b ∷ bs) else []

-- the same letters and digits, small or large
abbrev pub is_same_in_any_case : List ℕ → List ℕ → Bool
is_same_in_any_case word other = bytes_eq (map to_ascii_lowercase word) (map to_ascii_lowercase other)

-- the same letters and digits, of which some are small and large
abbrev pub is_same_but_for_case : List ℕ → List ℕ → Bool
is_same_but_for_case word other = is_same_in_any_case word other && not (bytes_eq word other)

-- a byte that may be there is this one
abbrev pub is_byte : Option ℕ → ℕ → Bool
is_byte None byte = false
is_byte (Some x) byte = x == byte

abbrev pub begins_with : List ℕ → ℕ → Bool
begins_with bytes byte = is_byte (slice_get bytes 0) byte
