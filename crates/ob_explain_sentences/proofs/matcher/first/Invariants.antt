use Rattle.std.proofs.Common.{◌≡◌, length, map}
use Rattle.ob_explain_sentences.specs.Rows.{first, row_of}
use Rattle.ob_explain_sentences.proofs.matcher.first.Given as goal

abbrev pub invariant-loop-rows : goal.invariant-loop-rows
invariant-loop-rows l = first l.view (map row_of l.rows) ≡ first l.view (map row_of l.initial.rows)

abbrev pub decreases-loop-rows : goal.decreases-loop-rows
decreases-loop-rows l = length l.rows
