use Rattle.std.proofs.Common.{[], ◌∷◌, option_to_list, subst}
use Rattle.ob_answer_files.specs.Reads.{AreThreeRead, IsRecordRead}
use Rattle.ob_answer_files.specs.declared.file_reading.RecordFile.{RecordFile}
use Rattle.ob_answer_files.specs.declared.file_reading.ThreeFiles.{ThreeFiles}
use Rattle.ob_command.specs.Commands.{run_request_of}
use Rattle.ob_answer_files.proofs.FilesRead.{unread_behind_part}
use Rattle.ob_answer_files.proofs.file_reading.read_run.Goals as goal

pub returns-in-Unread-2 : goal.returns-in-Unread-2
returns-in-Unread-2 g c =
    let run = run_request_of c.args.run in
    let read = subst (λ (x : ThreeFiles). AreThreeRead g.F.Files.reads run.calls.module_name run.calls.script_name run.schedule_name c.args.files.now x c.read_three.new.files)
    c.in-Read.is c.in_ok-answer.ensures in
    let unread = subst (λ (x : RecordFile). IsRecordRead g.F.Files.reads run.calls.from_name c.read_three.new.files x c.read_record.new.files)
    c.in-Unread-2.is c.in_ok-answer-in-Read.ensures in
    unread_behind_part g.F.Files.reads (run.calls.module_name ∷ run.calls.script_name ∷ run.schedule_name ∷ []) (option_to_list run.calls.from_name) _ _ _ _ _ (c.in-Read.second.items ∷ c.in-Read.third.items ∷ [])
    read unread
