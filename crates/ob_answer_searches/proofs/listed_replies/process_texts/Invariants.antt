-- The lists so far.
use Rattle.std.proofs.Common.{◌≡◌, length}
use Rattle.ob_answer_searches.specs.RowTexts.{AreProcessTexts}
use Rattle.ob_answer_searches.proofs.listed_replies.process_texts.Given as goal

abbrev pub invariant-loop-number : goal.invariant-loop-number
invariant-loop-number l = record {
  size : length l.texts.items ≡ l.number;
  made : AreProcessTexts l.wholes l.process l.texts.items;
}
