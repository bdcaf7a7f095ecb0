use Rattle.std.proofs.Common.{string_bytes}
use Rattle.ob_answer_explained.specs.CommandTexts.{source}
use Rattle.ob_explained_traps.specs.RecordTraps.{IsRecordTrapsText}
use Rattle.ob_answer_explained.proofs.explaining_traps.record_traps.Goals as goal

pub returns-in-Ok : goal.returns-in-Ok
returns-in-Ok c =
    let here : IsRecordTrapsText (source c.args.module_name.now c.args.module.now) c.args.record.now (string_bytes c.in-Ok.text) =
    rw (← c.in_ok-shown.ensures, ← c.deref.ensures) c.in-Ok.ensures.told in
    (string_bytes c.in-Ok.text, here, c.printed.ensures)
