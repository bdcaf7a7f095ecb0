-- The values of the parameters so far.
use Rattle.ob_text_values_reading.proofs.WrittenValues.{SaidTo}
use Rattle.ob_text_values_reading.proofs.written_values.front_values.Given as goal

abbrev pub invariant-loop-formal : goal.invariant-loop-formal
invariant-loop-formal l = SaidTo l.is_var l.formals l.text l.formal-index l.left l.values.items
