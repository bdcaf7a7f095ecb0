use Rattle.ob_answer_files.specs.Reads.{record_in_run}
use Rattle.ob_command.specs.Commands.{run_request_of}
use Rattle.ob_answer_explained.proofs.TextsSame.{run_same}
use Rattle.ob_answer_explained.proofs.asked_texts.run_with.Goals as goal

pub returns : goal.returns
returns c = run_same (run_request_of c.args.command) _ _ _ _ _ _ _ (record_in_run c.args.bytes.now) _ _ _
    c.as_slice.ensures.value c.from.ensures c.begun_with-beginning.ensures c.as_slice-2.ensures.value c.as_slice-3.ensures.value c.bytes_or_none.ensures
