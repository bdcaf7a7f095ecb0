-- What is said of a line of a script that is no call.
use Rattle.std.specs.Prelude.{ℕ, ◌==◌, List, bytes_eq, codes, if◌then◌else◌, length}
use Rattle.ob_explain_arguments.specs.Marks.{begins, begins_comment, byte_order_mark, has, order_mark_sentence}

-- by what stands where the line has no process; a record begins with the word obl0
abbrev pub process_sentence : List ℕ → List ℕ
process_sentence word =
    if begins byte_order_mark word then order_mark_sentence
    else if begins_comment word then codes "a remark is a line of its own that begins with #"
    else if bytes_eq word (codes "obl0") then codes "a script has calls alone, as 0 Push 1; where this is a record, write --record before its name"
    else codes "a line is a call, and begins with its process, of one to nine digits, as 0 Push 1"

-- by what stands where the line has no name of a procedure
abbrev pub name_sentence : List ℕ → List ℕ
name_sentence word =
    if length word == 0 then codes "behind its process a call has the name of a procedure, as 0 Push 1"
    else if begins_comment word then codes "a remark is a line of its own that begins with #"
    else if has 59 word then codes "a call ends with its line, and no ; stands behind it, as 0 Push 1"
    else if has 40 word then codes "values stand behind the name with blanks between, and with no parentheses, as 0 Push 1"
    else codes "behind its process a call has the name of a procedure, which has letters and digits and is no keyword, and then its values, as 0 Push 1"
