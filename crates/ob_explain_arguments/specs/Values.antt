-- What is said of marks in a word that is no value.
use Rattle.std.specs.Prelude.{ℕ, ◌||◌, List, [], codes, if◌then◌else◌}
use Rattle.ob_explain_arguments.specs.Marks.{has}

-- behind what is said of the value
abbrev pub mark_sentence : List ℕ → List ℕ
mark_sentence word =
    if has 59 word then codes "; a call ends with its line, and no semicolon stands behind it"
    else if has 44 word then codes "; values have blanks between them, and no commas"
    else if has 40 word || has 41 word then codes "; values stand in no parentheses"
    else []
