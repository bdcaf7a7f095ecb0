-- Where the lines of a script begin, and where their words stand.
use Rattle.std.specs.Prelude.{ℕ, zero, suc, ◌+◌, ◌-◌, ◌&&◌, not, nat_le, Bool, List, [], ◌∷◌, length, take, drop, Option, Some, None, if◌then◌else◌}
use Rattle.std.specs.Char.{is_ascii_digit}
use Rattle.std.specs.List.{list_all, prefix_len}
use Rattle.ob_text_words.specs.Words.{Word, is_blank}
use Rattle.ob_explain_sentences.specs.Places.{is_line_feed, line_from}

-- how many bytes a text has up to so many line feeds, with these; all bytes, where it has fewer line feeds
abbrev pub behind_feeds : ℕ → List ℕ → ℕ
behind_feeds zero text = 0
behind_feeds (suc n) [] = 0
behind_feeds (suc n) (b ∷ bs) = suc (behind_feeds (if is_line_feed b then n else suc n) bs)

-- where the line of a number begins, from 1
abbrev pub line_begin : List ℕ → ℕ → ℕ
line_begin text line = behind_feeds (line - 1) text

abbrev pub is_of_word : ℕ → Bool
is_of_word b = not (is_blank b)

-- in a line: where its first word begins, and where it ends
abbrev pub first_place : List ℕ → ℕ
first_place line = prefix_len is_blank line

abbrev pub first_end : List ℕ → ℕ
first_end line = first_place line + prefix_len is_of_word (drop (first_place line) line)

-- where its second word begins; its end, where it has none
abbrev pub second_place : List ℕ → ℕ
second_place line = first_end line + prefix_len is_blank (drop (first_end line) line)

-- where its word of a number begins, counted from 0: behind so many words; its end, where it has fewer
abbrev pub word_place : ℕ → List ℕ → ℕ
word_place zero line = first_place line
word_place (suc n) line = first_end line + word_place n (drop (first_end line) line)

-- where its value of a number begins, counted from 0, behind the process and the name; the name, where there is no number
abbrev pub told_place : Option ℕ → List ℕ → ℕ
told_place None line = second_place line
told_place (Some number) line = word_place (suc (suc number)) line

-- its first word
abbrev pub first_word : List ℕ → Word
first_word line = take (prefix_len is_of_word (drop (first_place line) line)) (drop (first_place line) line)

-- one to nine digits
abbrev pub is_process : Word → Bool
is_process word = (nat_le 1 (length word) && nat_le (length word) 9) && list_all is_ascii_digit word

-- the word by which a line is no call: the second one, where the first is a process
abbrev pub form_place : List ℕ → ℕ
form_place line = if is_process (first_word line) then second_place line else first_place line

-- a place in the line of a number
abbrev pub in_line : (List ℕ → ℕ) → List ℕ → ℕ → ℕ
in_line place text line = line_begin text line + place (line_from text (line_begin text line))
