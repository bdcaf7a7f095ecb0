-- In no line so far the call ends.
use Rattle.ob_explained_records.proofs.Ends.{IsEndOf, line_in}
use Rattle.ob_explained_lines.proofs.Firsts.{HoldsOfNone}
use Rattle.ob_explained_records.proofs.end_line.first_of.Given as goal

abbrev pub invariant-loop-index : goal.invariant-loop-index
invariant-loop-index l = HoldsOfNone line_in (IsEndOf l.id) l.lines l.index
