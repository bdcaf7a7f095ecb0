-- Which texts have the form of a record of a run.
use Rattle.std.specs.Prelude.{ℕ, ◌&&◌, Bool, false, List, [], ◌∷◌, codes}
use Rattle.std.specs.List.{list_any}
use Rattle.std.specs.Str.{bytes_eq}
use Rattle.ob_text_reading.specs.RecordLines.{Line, record_lines, said}
use Rattle.ob_text_words.specs.Words.{Word}

-- the first word of a line is this one
abbrev pub begins_with : Word → Line → Bool
begins_with word [] = false
begins_with word (first ∷ others) = bytes_eq first word

-- the same of the first of lines
abbrev pub begin_with : Word → List Line → Bool
begin_with word [] = false
begin_with word (line ∷ others) = begins_with word line

-- The first line that is no remark begins with `obl0`, and one of the lines with `O`: as those of a record do, while a history has no
-- title or no order, or neither.
abbrev pub is_record_form : List ℕ → Bool
is_record_form text = begin_with (codes "obl0") (said (record_lines text)) && list_any (begins_with (codes "O")) (record_lines text)
