use Rattle.std.proofs.Common.{sym}
use Rattle.ob_text_reading.proofs.RecordHeads.{title_missing}
use Rattle.ob_text_reading.proofs.record_reading.read_kept.Goals as goal

pub returns-in_default-clause-fault : goal.returns-in_default-clause-fault
returns-in_default-clause-fault c = title_missing _ _ (sym (rw c.in_default.is at c.in_ok-kept.ensures))

pub returns-clause-record : goal.returns-clause-record
returns-clause-record c =
    let kept = rw c.in-Some.is at c.in_ok-kept.ensures in
    rw (← kept) (rw c.deref.ensures.value at c.read_lines.ensures.record)

pub returns-clause-fault : goal.returns-clause-fault
returns-clause-fault c =
    let kept = rw c.in-Some.is at c.in_ok-kept.ensures in
    rw (← kept) (rw c.deref.ensures.value at c.read_lines.ensures.fault)
