use Rattle.std.proofs.Common.{[], ◌∷◌, subst}
use Rattle.std.proofs.lemmas.Result.{IfOk-weaker}
use Rattle.ob_answer.specs.Answers.{IsMade}
use Rattle.ob_answer_files.specs.Reads.{AreTwoRead}
use Rattle.ob_answer_files.specs.declared.file_reading.TwoFiles.{TwoFiles}
use Rattle.ob_command.specs.CommandLine.{ExplainRecord}
use Rattle.ob_answer_files.proofs.FilesRead.{two_made, unread_outcome}
use Rattle.ob_answer.proofs.explaining.obey_explain_record.Goals as goal

pub returns-in-Read : goal.returns-in-Read
returns-in-Read g c =
    let read = subst (λ (x : TwoFiles). AreTwoRead g.F.Files.reads c.args.module_name.now c.args.record_name.now c.args.files.now x c.read_two.new.files) c.in-Read.is
    c.in_ok-module.ensures in
    IfOk-weaker c.explain_record.result _ _ (λ a h. two_made g.F.Files.reads _ _ _ _ _ _ _ _ (IsMade (ExplainRecord c.args.module_name.now c.args.record_name.now)) a read c.as_slice.ensures.value c.as_slice-in-Read.ensures.value h)
    c.explain_record.ensures

pub returns-in-Unread : goal.returns-in-Unread
returns-in-Unread g c =
    unread_outcome g.F.Files.reads (c.args.module_name.now ∷ c.args.record_name.now ∷ []) (IsMade (ExplainRecord c.args.module_name.now c.args.record_name.now))
    c.args.files.now c.in-Unread.answer c.read_two.new.files
    (subst (λ (x : TwoFiles). AreTwoRead g.F.Files.reads c.args.module_name.now c.args.record_name.now c.args.files.now x c.read_two.new.files) c.in-Unread.is c.in_ok-module.ensures)
