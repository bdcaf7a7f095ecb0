-- One reply more.
use Rattle.std.proofs.Common.{◌+◌, refl}
use Rattle.std.specs.Borrow.{Bor}
use Rattle.ob_answer_searches.proofs.Numbered.{line_more, lines_all}
use Rattle.ob_answer_searches.specs.WholeLines.{row_lines}
use Rattle.ob_interface.specs.Call.{Reply}
use Rattle.ob_text_words.specs.ReplyLines.{reply_line}
use Rattle.wf_history.specs.View.{kept_reply}
use Rattle.wf_history.specs.declared.kept.KeptReply.{KeptReply}
use Rattle.ob_answer_searches.proofs.listed_replies.push_row.Goals as goal

abbrev reply_at : Bor KeptReply → Reply
reply_at reply = kept_reply reply.now

pub loop-made-preserved : goal.loop-made-preserved
loop-made-preserved c =
    line_more reply_at (row_lines c.args.process) (λ k. reply_line c.args.process (k + 1)) (λ k x xs. refl) _ _ _ c.args.row.now c.loop-made.made c.index-row-made.result
    c.loop-made-test.true c.index-row-made.is c.in_ok-push_reply.ensures c.loop-made.invariant

pub returns : goal.returns
returns c = lines_all reply_at (row_lines c.args.process) (λ k. refl) _ _ c.args.row.now c.loop-made.made c.loop-made-test.false c.loop-made.invariant
