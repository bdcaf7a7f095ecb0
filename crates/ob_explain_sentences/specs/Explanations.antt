-- The lines that show what is wrong with a text.
use Rattle.std.specs.Prelude.{ℕ, List, [], ◌++◌, map, codes, decimal, Option, Some, None}
use Rattle.ob_explain_sentences.specs.declared.place.Place.{Place}
use Rattle.ob_explain_sentences.specs.Places.{place_in, line_before, line_from}
use Rattle.ob_explain_sentences.specs.Remarks.{Remark}
use Rattle.ob_explain_sentences.specs.Shown.{blank_below, cut_blank, cut_mark, left_part, named, right_part, shown_byte}

-- the name of the text, the line and the column
abbrev pub place_line : List ℕ → Place → List ℕ
place_line name place = name ++ codes ":" ++ decimal place.line ++ codes ":" ++ decimal place.column ++ codes "\n"

-- What is shown of a line, of which these bytes stand before the place and these from there on. Of one that is too long the parts next
-- to the place are shown, and where it goes on stands `…`.
unfoldable pub shown_line : List ℕ → List ℕ → List ℕ
shown_line before from =
    cut_mark before (left_part before from) ++ map shown_byte (left_part before from)
    ++ map shown_byte (right_part before from) ++ cut_mark from (right_part before from)

-- the mark below the place
unfoldable pub mark_below : List ℕ → List ℕ → List ℕ
mark_below before from = cut_blank before (left_part before from) ++ map blank_below (left_part before from) ++ codes "^"

abbrev pub marked_line : List ℕ → List ℕ → List ℕ
marked_line before from = shown_line before from ++ codes "\n" ++ mark_below before from ++ codes "\n"

-- the name or keyword that stands at the place, and the sentence
unfoldable pub told_line : List ℕ → List ℕ → List ℕ
told_line from sentence = named from ++ sentence ++ codes "\n"

-- a hint, in a line of its own, where there is one
abbrev pub hint_line : Option (List ℕ) → List ℕ
hint_line None = []
hint_line (Some hint) = codes "hint: " ++ hint ++ codes "\n"

abbrev pub explanation : List ℕ → List ℕ → Remark → List ℕ
explanation name text remark =
    place_line name (place_in text remark.place)
    ++ marked_line (line_before text remark.place) (line_from text remark.place)
    ++ told_line (line_from text remark.place) remark.sentence
    ++ hint_line remark.hint
