use Rattle.std.proofs.Common.{ap, length, arith}
use Rattle.ob_text_values_reading.proofs.FirstLines.{few_lines}
use Rattle.ob_text_values_reading.proofs.VariableLines.{fault_result, no_title, told_result}
use Rattle.ob_text_values_reading.proofs.value_reading.read_lines.Goals as goal

pub returns-in_default-clause-fault : goal.returns-in_default-clause-fault
returns-in_default-clause-fault c =
    rw c.split_line.ensures (no_title _ _ (λ t. (rw (c.deref.ensures.value, c.in_ok-words.ensures) at c.in_default.ensures) t.0 t.1))

pub read_behind-requires-clause-few : goal.read_behind-requires-clause-few
read_behind-requires-clause-few c =
    let few = few_lines c.args.text.now in
    let first = ap length c.split_line.ensures in
    omega (arith, few, first)

pub returns-clause-values : goal.returns-clause-values
returns-clause-values c =
    rw c.split_line.ensures (told_result _ _ _ _ (_, rw (c.deref.ensures.value, c.in_ok-words.ensures) at c.in-Some.ensures) c.read_behind.ensures.values)

pub returns-clause-fault : goal.returns-clause-fault
returns-clause-fault c =
    rw c.split_line.ensures (fault_result _ _ _ (_, rw (c.deref.ensures.value, c.in_ok-words.ensures) at c.in-Some.ensures) c.read_behind.ensures.fault)
