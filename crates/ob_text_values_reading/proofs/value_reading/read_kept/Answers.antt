use Rattle.std.proofs.Common.{sym}
use Rattle.ob_text_values_reading.proofs.VariableLines.{nothing_told}
use Rattle.ob_text_values_reading.proofs.value_reading.read_kept.Goals as goal

pub returns-in_default-clause-fault : goal.returns-in_default-clause-fault
returns-in_default-clause-fault c = nothing_told _ (sym (rw c.in_default.is at c.in_ok-kept.ensures))

pub returns-clause-values : goal.returns-clause-values
returns-clause-values c =
    let kept = rw c.in-Some.is at c.in_ok-kept.ensures in
    rw (← kept) (rw c.deref.ensures.value at c.read_lines.ensures.values)

pub returns-clause-fault : goal.returns-clause-fault
returns-clause-fault c =
    let kept = rw c.in-Some.is at c.in_ok-kept.ensures in
    rw (← kept) (rw c.deref.ensures.value at c.read_lines.ensures.fault)
