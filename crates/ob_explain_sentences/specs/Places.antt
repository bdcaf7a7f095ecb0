-- Lines and columns of a text.
use Rattle.std.specs.Prelude.{ℕ, ◌+◌, ◌-◌, ◌==◌, nat_lt, not, Bool, List, length, take, drop, if◌then◌else◌}
use Rattle.std.specs.Char.{is_ascii_whitespace}
use Rattle.std.specs.List.{fold, suffix_len, take_while}
use Rattle.ob_explain_sentences.specs.declared.place.Place.{Place}

abbrev pub is_line_feed : ℕ → Bool
is_line_feed b = b == 10

-- the place behind one byte: the next column, or the first one of the next line
abbrev pub behind_byte : Place → ℕ → Place
behind_byte p b =
    if is_line_feed b then record { line = p.line + 1; column = 1 } else record { line = p.line; column = p.column + 1 }

-- where the byte at an offset stands: behind all bytes before it, from line 1 and column 1
abbrev pub place_in : List ℕ → ℕ → Place
place_in text at = fold behind_byte (record { line = 1; column = 1 }) (take at text)

-- the bytes of its line before an offset: one less than its column
abbrev pub line_before : List ℕ → ℕ → List ℕ
line_before text at = drop (length (take at text) + 1 - (place_in text at).column) (take at text)

-- the bytes before the first line feed, or all
abbrev pub up_to_line_feed : List ℕ → List ℕ
up_to_line_feed bytes = take_while (λ b. not (is_line_feed b)) bytes

-- the bytes of its line from an offset on
abbrev pub line_from : List ℕ → ℕ → List ℕ
line_from text at = up_to_line_feed (drop at text)

-- Where a place is shown: the end of a text behind its last byte that is no blank, in whose line people look for what is missing.
abbrev pub shown_place : List ℕ → ℕ → ℕ
shown_place text at = if nat_lt at (length text) then at else length text - suffix_len is_ascii_whitespace text
