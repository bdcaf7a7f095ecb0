-- One process more.
use Rattle.std.proofs.Common.{refl}
use Rattle.ob_answer_searches.proofs.Numbered.{line_next, lines_all}
use Rattle.ob_answer_searches.specs.RowTexts.{row_in}
use Rattle.ob_answer_searches.specs.WholeLines.{row_lines, rows_lines}
use Rattle.ob_answer_searches.proofs.listed_replies.Source.push_told.Goals as goal

pub loop-process-preserved : goal.loop-process-preserved
loop-process-preserved c =
    line_next (row_in c.args.self.now.wholes.now) rows_lines (λ k. row_lines k 0) (λ k x xs. refl) _ _ _ c.args.told.now c.loop-process.process 0 c.loop-process-test.true
    c.in_ok-push_text.ensures c.loop-process.invariant

pub returns : goal.returns
returns c = lines_all (row_in c.args.self.now.wholes.now) rows_lines (λ k. refl) _ _ c.args.told.now c.loop-process.process c.loop-process-test.false c.loop-process.invariant
