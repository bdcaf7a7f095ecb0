-- The lines of whole outcomes: O, E and V lines are those of records.
use Rattle.std.specs.Prelude.{ℕ, ◌+◌, List, [], ◌∷◌, ◌++◌, codes, decimal, length}
use Rattle.ob_interface.specs.Call.{Reply}
use Rattle.ob_meaning.specs.ByPositionStore.{Activation}
use Rattle.ob_text_words.specs.ReplyLines.{reply_line}
use Rattle.ob_text_record.specs.RecordText.{order_text}
use Rattle.ob_text_record.specs.Variables.{state_text}
use Rattle.ob_typing.specs.Program.{Variable}
use Rattle.wf_whole_outcomes.specs.Wholes.{WholeTold}

-- the replies to the calls of a process behind so many that were made
abbrev pub row_lines : (process made : ℕ) → List Reply → List ℕ
row_lines process made [] = []
row_lines process made (reply ∷ replies) = reply_line process (made + 1) reply ++ row_lines process (made + 1) replies

-- of each process, from a process on
abbrev pub rows_lines : (process : ℕ) → List (List Reply) → List ℕ
rows_lines process [] = []
rows_lines process (row ∷ rows) = row_lines process 0 row ++ rows_lines (process + 1) rows

-- W and the number of an outcome
abbrev pub number_line : ℕ → List ℕ
number_line number = codes "W " ++ decimal number ++ codes "\n"

-- an outcome: its number, the order that gives it, the replies, and the variables at the end
abbrev pub one_lines : List Variable → (number : ℕ) → WholeTold Activation Reply → List ℕ
one_lines variables number whole =
    number_line number ++ order_text whole.order ++ rows_lines 0 whole.replies ++ state_text variables whole.state

-- outcomes before which so many stand
abbrev pub numbered_lines : List Variable → (before : ℕ) → List (WholeTold Activation Reply) → List ℕ
numbered_lines variables before [] = []
numbered_lines variables before (whole ∷ wholes) = one_lines variables (before + 1) whole ++ numbered_lines variables (before + 1) wholes

-- how many there are
abbrev pub total_line : ℕ → List ℕ
total_line count = codes "outcomes " ++ decimal count ++ codes "\n"

-- all of them, and how many there are
abbrev pub whole_lines : List Variable → List (WholeTold Activation Reply) → List ℕ
whole_lines variables wholes = numbered_lines variables 0 wholes ++ total_line (length wholes)
