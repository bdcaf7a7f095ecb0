use Rattle.std.proofs.Common.{◌∷◌, subst}
use Rattle.std.proofs.lemmas.Result.{IfOk-weaker}
use Rattle.ob_answer.specs.Answers.{IsRunMade}
use Rattle.ob_answer_files.specs.Reads.{IsRunRead, files_of_run, record_in_run}
use Rattle.ob_answer_files.specs.declared.file_reading.RunFiles.{RunFiles}
use Rattle.ob_command.specs.Commands.{run_request_of}
use Rattle.ob_answer_files.proofs.FilesRead.{made_of_part, unread_outcome}
use Rattle.ob_answer.proofs.command_answers.obey_run.Goals as goal

pub returns-in-Read : goal.returns-in-Read
returns-in-Read g c =
    let run = run_request_of c.args.run in
    let read = subst (λ (x : RunFiles). IsRunRead g.F.Files.reads run c.args.files.now x c.read_run.new.files) c.in-Read.is c.in_ok-bytes.ensures in
    IfOk-weaker c.answer_run.result _ _ (λ a h. made_of_part g.F.Files.reads (files_of_run run) (IsRunMade c.args.product run) c.args.files.now a c.in-Read.bytes.text.items
    (c.in-Read.bytes.script.items ∷ c.in-Read.bytes.schedule.items ∷ record_in_run c.in-Read.bytes) c.read_run.new.files read h)
    c.answer_run.ensures

pub returns-in-Unread : goal.returns-in-Unread
returns-in-Unread g c =
    let run = run_request_of c.args.run in
    unread_outcome g.F.Files.reads (files_of_run run) (IsRunMade c.args.product run) c.args.files.now c.in-Unread.answer c.read_run.new.files
    (subst (λ (x : RunFiles). IsRunRead g.F.Files.reads run c.args.files.now x c.read_run.new.files) c.in-Unread.is c.in_ok-bytes.ensures)
