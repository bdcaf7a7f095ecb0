use Rattle.std.proofs.Common.{◌∷◌, subst}
use Rattle.std.proofs.lemmas.Result.{IfOk-weaker}
use Rattle.ob_answer.specs.Answers.{IsCallsMade}
use Rattle.ob_answer_files.specs.Reads.{AreCallsRead, files_of_calls, record_in_calls}
use Rattle.ob_answer_files.specs.declared.file_reading.CallsFiles.{CallsFiles}
use Rattle.ob_command.specs.Commands.{calls_request_of}
use Rattle.ob_answer_files.proofs.FilesRead.{made_of_part, unread_outcome}
use Rattle.ob_answer.proofs.command_answers.obey_calls.Goals as goal

pub returns-in-Read : goal.returns-in-Read
returns-in-Read g c =
    let calls = calls_request_of c.args.calls in
    let read = subst (λ (x : CallsFiles). AreCallsRead g.F.Files.reads calls c.args.files.now x c.read_calls.new.files) c.in-Read.is c.in_ok-bytes.ensures in
    IfOk-weaker c.answer_calls.result _ _ (λ a h. made_of_part g.F.Files.reads (files_of_calls calls) (IsCallsMade c.args.product calls) c.args.files.now a c.in-Read.bytes.text.items
    (c.in-Read.bytes.script.items ∷ record_in_calls c.in-Read.bytes) c.read_calls.new.files read h)
    c.answer_calls.ensures

pub returns-in-Unread : goal.returns-in-Unread
returns-in-Unread g c =
    let calls = calls_request_of c.args.calls in
    unread_outcome g.F.Files.reads (files_of_calls calls) (IsCallsMade c.args.product calls) c.args.files.now c.in-Unread.answer c.read_calls.new.files
    (subst (λ (x : CallsFiles). AreCallsRead g.F.Files.reads calls c.args.files.now x c.read_calls.new.files) c.in-Unread.is c.in_ok-bytes.ensures)
