-- What is said of a word of a schedule that is no item.
use Rattle.std.specs.Prelude.{ℕ, ◌==◌, ◌||◌, ◌++◌, nat_lt, List, [], ◌∷◌, Option, None, Some, codes, drop, if◌then◌else◌}
use Rattle.std.specs.Char.{is_ascii_digit, is_ascii_lowercase}
use Rattle.std.specs.List.{list_any, prefix_len}
use Rattle.ob_explain_arguments.specs.Marks.{begins, begins_comment, byte_order_mark, has, order_mark_sentence}
use Rattle.ob_explain_arguments.specs.Near.{near_label}

abbrev pub item_form : List ℕ
item_form = codes "an item is a process with *STEPS, :LABEL or ! behind it, and no blanks between, as 0*3, 0:TRY or 0!"

-- of a label that is near, or else which ones there are
abbrev pub near_or_labels : Option (List ℕ) → List ℕ
near_or_labels None =
    codes "; they are NEXT, POST, FLIP, TRY, LINK, LOAD, STORE, CHECK1, MINE, SEEN, FETCH, CHECK2, SAVE, ENTER, BODY, UNDO, KEEP, COMMIT, READ, TAKE and GIVE"
near_or_labels (Some name) = codes "; did you mean `" ++ name ++ codes "`?"

-- what labels are
abbrev pub label_form : (behind : List ℕ) → List ℕ
label_form behind =
    if list_any is_ascii_lowercase behind then codes "labels are written in capitals, as 0:TRY"
    else codes "behind : stands a label, with no blank before it"

abbrev pub label_sentence : (behind : List ℕ) → List ℕ
label_sentence behind = label_form behind ++ near_or_labels (near_label behind)

-- by what stands behind the digits of a process: nothing, *, :, ! or something else
abbrev pub deed_sentence : (behind : List ℕ) → List ℕ
deed_sentence [] = codes "behind a process stands *STEPS, :LABEL or !, with no blank before it, as 0*3, 0:TRY or 0!"
deed_sentence (mark ∷ behind) =
    if mark == 42 then codes "behind * stands how many steps, in one to nine digits and with no blank before them, as 0*3"
    else if mark == 58 then label_sentence behind
    else if mark == 33 then codes "an item ends with its !, and a blank or a line feed stands before the next one, as 0! 1!"
    else item_form

-- by how many digits the word begins with, and what stands behind them
abbrev pub numbered_sentence : (digits : ℕ) → (behind : List ℕ) → List ℕ
numbered_sentence digits behind =
    if digits == 0 then item_form
    else if nat_lt 9 digits then codes "a process has one to nine digits"
    else deed_sentence behind

abbrev pub item_sentence : List ℕ → List ℕ
item_sentence word =
    if begins byte_order_mark word then order_mark_sentence
    else if begins (codes "#") word || begins_comment word then codes "a remark is a line of its own that begins with #"
    else if has 44 word || has 59 word then codes "items are separated by blanks or line feeds, and not by commas or semicolons"
    else numbered_sentence (prefix_len is_ascii_digit word) (drop (prefix_len is_ascii_digit word) word)
