-- The lines so far, and those of the replies that are left.
use Rattle.std.proofs.Common.{◌≡◌, ◌++◌, drop, map, string_bytes}
use Rattle.ob_answer_searches.specs.WholeLines.{row_lines}
use Rattle.wf_history.specs.View.{kept_reply}
use Rattle.ob_answer_searches.proofs.listed_replies.push_row.Given as goal

abbrev pub invariant-loop-made : goal.invariant-loop-made
invariant-loop-made l =
    string_bytes l.text ++ row_lines l.process l.made (drop l.made (map (λ reply. kept_reply reply.now) l.row))
    ≡ string_bytes l.fn.text ++ row_lines l.process 0 (map (λ reply. kept_reply reply.now) l.row)
