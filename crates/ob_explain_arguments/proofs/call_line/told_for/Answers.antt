use Rattle.std.proofs.Common.{sym}
use Rattle.ob_explain_arguments.proofs.call_line.told_for.Goals as goal

pub returns-in_default : goal.returns-in_default
returns-in_default c = rw (sym c.in_default.ensures) c.unknown_told.ensures

pub returns : goal.returns
returns c = rw (sym c.in-Some.ensures) (rw c.deref.ensures.value at c.told_values.ensures)
