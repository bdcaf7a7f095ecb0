-- What each fault of a script says to people.
use Rattle.std.specs.Prelude.{ℕ, List, Option, None, codes, drop, if◌then◌else◌}
use Rattle.ob_text_scripts.specs.declared.script.ScriptFault.{ScriptFault}
use Rattle.ob_text_scripts.specs.declared.script.ScriptFault.TheVariants as Script
use Rattle.ob_explain_sentences.specs.Places.{line_from}
use Rattle.ob_explain_sentences.specs.Remarks.{Remark, at}
use Rattle.ob_explain_arguments.specs.ScriptLines.{name_sentence, process_sentence}
use Rattle.ob_explained.specs.ScriptPlaces.{first_place, first_word, form_place, in_line, is_process, line_begin, second_place}

-- of a line that is no call, by its second word where the first one is a process, and else by the first one
abbrev pub line_sentence : List ℕ → List ℕ
line_sentence line =
    if is_process (first_word line) then name_sentence (first_word (drop (second_place line) line)) else process_sentence (first_word line)

-- at the word of the line that the rule is about: the process, or the procedure's name
abbrev pub script_remark : List ℕ → ScriptFault → Option Remark
script_remark script (Script.Form line) =
    at (in_line form_place script line) (line_sentence (line_from script (line_begin script line)))
script_remark script (Script.Procedure line) =
    at (in_line second_place script line) (codes "a call names a procedure that the module exports, which has a * behind its name there")
script_remark script (Script.Arguments line) =
    at (in_line second_place script line)
    (codes "a call has a value for each parameter but those with VAR: a number from -2147483648 to 2147483647, or TRUE or FALSE")
script_remark script (Script.Process line) = at (in_line first_place script line) (codes "the processes of a script are 0 to 15")
script_remark script Script.NoMemory = None
