use Rattle.std.proofs.Common.{[], ◌∷◌, Option, subst}
use Rattle.std.proofs.lemmas.Result.{IfOk-weaker}
use Rattle.ob_answer.specs.Answers.{IsMade}
use Rattle.ob_answer_files.specs.Reads.{AreTwoRead}
use Rattle.ob_answer_files.specs.declared.file_reading.TwoFiles.{TwoFiles}
use Rattle.ob_answer_searches.specs.HistoryPictureAnswers.{IsHistoryPictureAnswer}
use Rattle.ob_command.specs.CommandLine.{DrawHistory}
use Rattle.ob_command.specs.Commands.{seen_request_of}
use Rattle.ob_picture_chart.specs.declared.charts.CallRange.{CallRange}
use Rattle.ob_answer_files.proofs.FilesRead.{two_made, unread_outcome}
use Rattle.ob_answer.proofs.answer.obey_draw_history.Goals as goal

pub returns-in-Read : goal.returns-in-Read
returns-in-Read g c =
    let read = subst (λ (x : TwoFiles). AreTwoRead g.F.Files.reads c.args.seen.module_name.now c.args.seen.history_name.now c.args.files.now x c.read_two.new.files) c.in-Read.is
    c.in_ok-module.ensures in
    IfOk-weaker c.answer_draw_history.result _ _ (λ a h. two_made g.F.Files.reads _ _ _ _ _ _ _ _ (IsMade (DrawHistory (seen_request_of c.args.seen))) a read c.as_slice.ensures.value c.as_slice-in-Read.ensures.value
    (λ whole is. subst (λ (r : Option CallRange). IsHistoryPictureAnswer r whole c.as_slice-in-Read.result.now c.args.seen.budget c.args.seen.most a) c.range_of.ensures (h whole is)))
    c.answer_draw_history.ensures

pub returns-in-Unread : goal.returns-in-Unread
returns-in-Unread g c =
    unread_outcome g.F.Files.reads (c.args.seen.module_name.now ∷ c.args.seen.history_name.now ∷ []) (IsMade (DrawHistory (seen_request_of c.args.seen)))
    c.args.files.now c.in-Unread.answer c.read_two.new.files
    (subst (λ (x : TwoFiles). AreTwoRead g.F.Files.reads c.args.seen.module_name.now c.args.seen.history_name.now c.args.files.now x c.read_two.new.files) c.in-Unread.is c.in_ok-module.ensures)
