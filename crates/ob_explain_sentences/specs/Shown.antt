-- How a line of a text is shown.
use Rattle.std.specs.Prelude.{ℕ, ◌+◌, ◌-◌, ◌==◌, ◌||◌, ◌&&◌, nat_le, nat_lt, Bool, List, [], ◌∷◌, ◌++◌, drop, length, map, take, codes, if◌then◌else◌}
use Rattle.std.specs.List.{take_while}
use Rattle.std.specs.Char.{is_ascii_alphanumeric}
use Rattle.ob_explain_sentences.specs.Words.{word_at}

-- a tab or a printable ASCII character as it is, a blank for a carriage return, and `?` for each other byte
abbrev pub shown_byte : ℕ → ℕ
shown_byte b = if (b == 9) || (nat_le 32 b && nat_le b 126) then b else if b == 13 then 32 else 63

-- a tab below a tab, and a blank below all else
abbrev pub blank_below : ℕ → ℕ
blank_below b = if b == 9 then 9 else 32

abbrev pub goes_on_word : ℕ → Bool
goes_on_word b = is_ascii_alphanumeric b || (b == 95)

-- the name or keyword that bytes begin with, and with it each `_`, which no name has
abbrev pub whole_word : List ℕ → List ℕ
whole_word bytes = if length (word_at bytes) == 0 then [] else take_while goes_on_word bytes

-- a word in quotes, with a colon
abbrev pub quoted : List ℕ → List ℕ
quoted word = codes "`" ++ map shown_byte word ++ codes "`: "

abbrev pub named : List ℕ → List ℕ
named bytes = if length (whole_word bytes) == 0 then [] else quoted (whole_word bytes)

-- a line of more than 160 bytes, of which these stand before a place and these from there on, is too long
abbrev pub is_long : (before from : List ℕ) → Bool
is_long before from = nat_lt 160 (length before + length from)

-- the last 79 bytes, or 80 where there are no more
abbrev pub last_part : List ℕ → List ℕ
last_part bytes = if nat_le (length bytes) 80 then bytes else drop (length bytes - 79) bytes

-- the first 79 bytes, or 80 where there are no more
abbrev pub first_part : List ℕ → List ℕ
first_part bytes = if nat_le (length bytes) 80 then bytes else take 79 bytes

-- what is shown of a line before a place, and from there on
unfoldable pub left_part : (before from : List ℕ) → List ℕ
left_part before from = if is_long before from then last_part before else before

unfoldable pub right_part : (before from : List ℕ) → List ℕ
right_part before from = if is_long before from then first_part from else from

-- the `…` where more stands than is shown, in UTF-8
unfoldable pub cut_mark : (all shown : List ℕ) → List ℕ
cut_mark all shown = if nat_lt (length shown) (length all) then 226 ∷ 128 ∷ 166 ∷ [] else []

-- the blank below it
unfoldable pub cut_blank : (all shown : List ℕ) → List ℕ
cut_blank all shown = if nat_lt (length shown) (length all) then codes " " else []
