use Rattle.std.proofs.Common.{◌≡◌, ◌++◌, drop, length, string_bytes}
use Rattle.ob_checked.specs.View.{program_of}
use Rattle.ob_store.specs.View.{state_of}
use Rattle.ob_text_words.specs.Appending.{GoesOn}
use Rattle.ob_text_record.specs.Variables.{lines_behind}
use Rattle.ob_text_record.proofs.variables.push_lines.Given as goal

-- the lines so far, and those of the variables that are left
abbrev pub invariant-loop-variable : goal.invariant-loop-variable
invariant-loop-variable l =
    record {
      so_far :
          string_bytes l.text ++ lines_behind l.mark (drop (length l.yielded) (program_of l.program).variables) (drop (length l.yielded) (state_of l.state))
          ≡ string_bytes l.fn.text ++ lines_behind l.mark (program_of l.program).variables (state_of l.state);
      kept : GoesOn (string_bytes l.fn.text) (string_bytes l.text);
    }
