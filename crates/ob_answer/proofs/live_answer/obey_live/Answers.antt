use Rattle.std.proofs.Common.{◌∷◌, subst}
use Rattle.std.proofs.lemmas.Result.{IfOk-weaker}
use Rattle.ob_answer.specs.LiveAnswers.{AreLiveRead, IsLiveMade, files_of_live}
use Rattle.ob_answer_files.specs.Reads.{record_in_calls}
use Rattle.ob_answer_files.specs.declared.file_reading.CallsFiles.{CallsFiles}
use Rattle.ob_command.specs.Commands.{calls_request_of}
use Rattle.ob_answer_files.proofs.FilesRead.{made_of_part, unread_outcome}
use Rattle.ob_answer.proofs.live_answer.obey_live.Goals as goal

pub returns-in-Read-clause-obeyed : goal.returns-in-Read-clause-obeyed
returns-in-Read-clause-obeyed g c =
    let calls = calls_request_of c.args.calls in
    let made = IsLiveMade g.C.Conversation.hears g.C.Conversation.tells c.args.conversation.now c.answer_read.new.conversation calls in
    let read = subst (λ (x : CallsFiles). AreLiveRead g.F.Files.reads calls c.args.files.now x c.read_live.new.files) c.in-Read.is c.in_ok-bytes.ensures in
    IfOk-weaker c.answer_read.result _ _ (λ a h. made_of_part g.F.Files.reads (files_of_live calls) made c.args.files.now a c.in-Read.bytes.text.items
    (record_in_calls c.in-Read.bytes) c.read_live.new.files read h)
    c.answer_read.ensures.made

pub returns-in-Unread-clause-obeyed : goal.returns-in-Unread-clause-obeyed
returns-in-Unread-clause-obeyed g c =
    let calls = calls_request_of c.args.calls in
    unread_outcome g.F.Files.reads (files_of_live calls) (IsLiveMade g.C.Conversation.hears g.C.Conversation.tells c.args.conversation.now c.args.conversation.now calls)
    c.args.files.now c.in-Unread.answer c.read_live.new.files
    (subst (λ (x : CallsFiles). AreLiveRead g.F.Files.reads calls c.args.files.now x c.read_live.new.files) c.in-Unread.is c.in_ok-bytes.ensures)
