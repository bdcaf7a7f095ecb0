-- One process more.
use Rattle.std.proofs.Common.{ap, length}
use Rattle.ob_answer_searches.proofs.Made.{none_right, one_longer, one_right}
use Rattle.ob_answer_searches.specs.RowTexts.{AreProcessTexts}
use Rattle.ob_answer_searches.proofs.listed_replies.row_texts.Goals as goal

pub loop-process-init : goal.loop-process-init
loop-process-init c = record {
  size = ap length c.in_ok-texts.ensures.items;
  made = none_right (λ process texts. AreProcessTexts c.args.wholes.now process texts.items) c.in_ok-texts.texts.items c.in_ok-texts.ensures.items;
}

pub loop-process-preserved : goal.loop-process-preserved
loop-process-preserved c =
    let i = c.loop-process.invariant in
    record {
      size = one_longer c.loop-process.texts.items c.loop-process.process i.size c.in_ok-process_texts.field-0 c.push.new.self.items c.in_ok-push.ensures.items;
      made = one_right (λ process texts. AreProcessTexts c.args.wholes.now process texts.items) c.loop-process.texts.items c.loop-process.process i.size i.made
          c.in_ok-process_texts.field-0 c.in_ok-process_texts.ensures c.push.new.self.items c.in_ok-push.ensures.items;
    }
