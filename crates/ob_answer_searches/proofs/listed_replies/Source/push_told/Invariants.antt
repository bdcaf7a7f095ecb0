-- The lines so far, and those of the processes that are left.
use Rattle.std.proofs.Common.{◌≡◌, ◌++◌, drop, map, string_bytes}
use Rattle.ob_answer_searches.specs.RowTexts.{row_in}
use Rattle.ob_answer_searches.specs.WholeLines.{rows_lines}
use Rattle.ob_answer_searches.proofs.listed_replies.Source.push_told.Given as goal

abbrev pub invariant-loop-process : goal.invariant-loop-process
invariant-loop-process l =
    string_bytes l.text ++ rows_lines l.process (drop l.process (map (row_in l.self.wholes.now) l.told)) ≡ string_bytes l.fn.text ++ rows_lines 0 (map (row_in l.self.wholes.now) l.told)
