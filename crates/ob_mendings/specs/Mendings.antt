-- Mendings of a text: at a place a few bytes are taken out, and what is meant is put there.
use Rattle.std.specs.Prelude.{◌≡◌, ◌-◌, ◌==◌, ℕ, nat_lt, List, ◌++◌, codes, decimal, drop, length, map, max, replicate, take, if◌then◌else◌}
use Rattle.std.specs.Char.{to_ascii_uppercase}
use Rattle.std.specs.List.{fold}
use Rattle.ob_explain_sentences.specs.Places.{place_in}
use Rattle.ob_explain_sentences.specs.Shown.{shown_byte}
use Rattle.ob_mendings.specs.declared.mending.Elsewhere.{Elsewhere}
use Rattle.ob_mendings.specs.declared.mending.Elsewhere.TheVariants as Each
use Rattle.ob_mendings.specs.declared.mending.Mending.{Mending}
use Rattle.ob_mendings.specs.declared.mending.Told.{Told}
use Rattle.ob_mendings.specs.declared.mending.Told.TheVariants as By
use Rattle.ob_mendings.specs.declared.origin.Move.{Move}

-- ---- the mended text

-- some bytes, and blanks behind them up to so many
abbrev pub filled_up : (put : List ℕ) → (bytes : ℕ) → List ℕ
filled_up put bytes = put ++ replicate (bytes - length put) 32

-- `x == 1` with `:=` in place of the two bytes at 2 is `x := 1`
abbrev pub spliced : (text : List ℕ) → Mending → List ℕ
spliced text m = take m.place text ++ filled_up m.put.items m.taken ++ drop m.taken (drop m.place text)

-- a letter for `_`, and each other byte as it is
abbrev pub letter_for : ℕ → ℕ
letter_for b = if b == 95 then 120 else b

-- a blank for each byte but a line feed
abbrev pub blank_for : ℕ → ℕ
blank_for b = if b == 10 then b else 32

-- blanks for so many bytes from there on: `TYPE` from 2 on, of 2 bytes, is `TY  `
abbrev pub blanked : (from bytes : ℕ) → (text : List ℕ) → List ℕ
blanked from bytes text = take from text ++ map blank_for (take bytes (drop from text)) ++ drop bytes (drop from text)

-- two texts differ at most in which of their letters are capital
abbrev pub AreSameButForCase : List ℕ → List ℕ → Type 0
AreSameButForCase text other = map to_ascii_uppercase text ≡ map to_ascii_uppercase other

-- a mending changes a text to this one
abbrev pub IsMendedBy : Elsewhere → (text : List ℕ) → Mending → (whole : List ℕ) → Type 0
IsMendedBy Each.Nothing text m whole = whole ≡ spliced text m
IsMendedBy Each.Letters text m whole = whole ≡ map letter_for text
IsMendedBy Each.Capitals text m whole = AreSameButForCase whole text
IsMendedBy (Each.Moved from bytes) text m whole = whole ≡ spliced (blanked from bytes text) m

abbrev pub IsMended : (text : List ℕ) → Mending → (whole : List ℕ) → Type 0
IsMended text m whole = IsMendedBy m.elsewhere text m whole

-- ---- how it is told

-- what is put there is told itself
abbrev pub put_text : (put words : List ℕ) → List ℕ
put_text put words = codes "with " ++ map shown_byte put ++ words

-- or its line is
abbrev pub line_text : (words : List ℕ) → (line : ℕ) → (behind : List ℕ) → List ℕ
line_text words line behind = words ++ decimal line ++ behind

abbrev pub told_by : Told → (text : List ℕ) → Mending → List ℕ
told_by (By.Words words) text m = words.now
told_by (By.Put words) text m = put_text m.put.items words.now
told_by (By.Line words behind) text m = line_text words.now (place_in text m.place).line behind.now

abbrev pub mending_text : (text : List ℕ) → Mending → List ℕ
mending_text text m = told_by m.told text m

-- ---- places

-- what is put there, and blanks up to what is taken out
abbrev pub move_of : Mending → Move
move_of m = record { place = m.place; taken = m.taken; put = max (length m.put.items) m.taken }

-- Where a place of the mended text stands in the text: before the mending as it is, in what is put there at the mending's place, and
-- behind that by so many bytes less as the text has grown. Of `x := 1` in place of `x = 1`, 5 stands at 4, and 3 at 2.
abbrev pub origin : Move → ℕ → ℕ
origin m at =
    if nat_lt at m.place then at
    else if nat_lt (at - m.place) m.put then m.place
    else at - (m.put - m.taken)

-- through several mendings, each of the text with those behind it in the list
abbrev pub origin_in : List Move → ℕ → ℕ
origin_in moves at = fold (λ place m. origin m place) at moves
