-- The processes so far.
use Rattle.std.proofs.Common.{◌≡◌, length}
use Rattle.ob_answer_searches.specs.RowTexts.{AreRowTexts}
use Rattle.ob_answer_searches.proofs.listed_replies.row_texts.Given as goal

abbrev pub invariant-loop-process : goal.invariant-loop-process
invariant-loop-process l = record {
  size : length l.texts.items ≡ l.process;
  made : AreRowTexts l.wholes l.texts.items;
}
