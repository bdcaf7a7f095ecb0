use Rattle.std.proofs.Common.{◌∙◌, Bool, IfOk, None, subst, sym}
use Rattle.std.specs.Bool.{MatchBool}
use Rattle.ob_answer.specs.Answers.{IsRecordPictureAnswer}
use Rattle.ob_answer_files.specs.Reads.{OfWhole}
use Rattle.ob_answer_searches.specs.HistoryPictureAnswers.{IsHistoryPictureAnswer}
use Rattle.ob_command.specs.CommandLine.{default_most}
use Rattle.ob_answer.proofs.text_answers.answer_draw_seen.Goals as goal

pub returns-then-is_record_form : goal.returns-then-is_record_form
returns-then-is_record_form g c =
    subst (λ (b : Bool). IfOk c.answer_draw_record.result (OfWhole c.args.module.now (λ whole answer. MatchBool b (IsRecordPictureAnswer c.args.calls whole c.args.seen.now answer)
    (IsHistoryPictureAnswer c.args.calls whole c.args.seen.now None default_most answer)))) (sym c.if-is_record_form.true ∙ c.is_record_form.ensures) c.answer_draw_record.ensures

pub returns : goal.returns
returns g c =
    subst (λ (b : Bool). IfOk c.answer_draw_history.result (OfWhole c.args.module.now (λ whole answer. MatchBool b (IsRecordPictureAnswer c.args.calls whole c.args.seen.now answer)
    (IsHistoryPictureAnswer c.args.calls whole c.args.seen.now None default_most answer)))) (sym c.if-is_record_form.false ∙ c.is_record_form.ensures) c.answer_draw_history.ensures
