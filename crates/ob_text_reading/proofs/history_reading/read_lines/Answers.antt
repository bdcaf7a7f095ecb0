use Rattle.std.proofs.Common.{◌∙◌, ap, length, sym, arith}
use Rattle.ob_text_reading.proofs.Faulty.{all_read, no_line, none_read, number_within, one_more, opening_missing, read_same}
use Rattle.ob_text_values_reading.proofs.FirstLines.{few_lines}
use Rattle.ob_text_values_reading.specs.RecordTexts.{lines_behind}
use Rattle.ob_text_reading.proofs.history_reading.read_lines.Goals as goal

pub loop-left-init : goal.loop-left-init
loop-left-init c = none_read _ _ _ c.in_ok-reader.ensures

pub overflow_add-number : goal.overflow_add-number
overflow_add-number c =
    let few = few_lines c.args.text.now in
    let here = number_within _ _ _ _ _ c.loop-left.invariant in
    let taken = rw c.in-Some-2.is at c.in_ok-behind.ensures in
    let one_less = ap length (ap lines_behind c.in-Some.is ∙ taken.parts) in
    omega (arith, few, here, one_less)

pub overflow_add-number-in-Some : goal.overflow_add-number-in-Some
overflow_add-number-in-Some c =
    let few = few_lines c.args.text.now in
    let here = number_within _ _ _ _ _ c.loop-left.invariant in
    let one_less = ap length (ap lines_behind c.in-Some.is ∙ c.split_line.ensures) in
    omega (arith, few, here, one_less)

pub returns-in-None-clause-fault : goal.returns-in-None-clause-fault
returns-in-None-clause-fault c =
    let read = read_same _ _ _ _ _ _ c.loop-left.invariant (rw c.in_default-2.is at c.in_ok-behind.ensures) in
    no_line _ _ _ _ _ _ _ read (ap lines_behind c.in-Some.is ∙ c.split_line.ensures) (rw c.in-None.is at c.in_ok-next.ensures)

pub loop-left-smaller-in-Some-2 : goal.loop-left-smaller-in-Some-2
loop-left-smaller-in-Some-2 c =
    let taken = rw c.in-Some-2.is at c.in_ok-behind.ensures in
    let one_less = ap length (ap lines_behind c.in-Some.is ∙ taken.parts) in
    omega (arith, one_less)

pub loop-left-smaller : goal.loop-left-smaller
loop-left-smaller c =
    let one_less = ap length (ap lines_behind c.in-Some.is ∙ c.split_line.ensures) in
    omega (arith, one_less)

pub loop-left-preserved-in-Some-2 : goal.loop-left-preserved-in-Some-2
loop-left-preserved-in-Some-2 c =
    let taken = rw c.in-Some-2.is at c.in_ok-behind.ensures in
    one_more _ _ _ _ _ _ _ c.loop-left.invariant (ap lines_behind c.in-Some.is ∙ taken.parts) _ taken.leads

pub loop-left-preserved : goal.loop-left-preserved
loop-left-preserved c =
    let read = read_same _ _ _ _ _ _ c.loop-left.invariant (rw c.in_default-2.is at c.in_ok-behind.ensures) in
    one_more _ _ _ _ _ _ _ read (ap lines_behind c.in-Some.is ∙ c.split_line.ensures) _ (rw c.in-Some-3.is at c.in_ok-next.ensures)

pub overflow_add-result : goal.overflow_add-result
overflow_add-result c =
    let few = few_lines c.args.text.now in
    let here = number_within _ _ _ _ _ c.loop-left.invariant in
    omega (arith, few, here)

pub returns-then-not-is_opened-clause-fault : goal.returns-then-not-is_opened-clause-fault
returns-then-not-is_opened-clause-fault c =
    opening_missing _ _ _ _ _ c.loop-left.invariant (ap lines_behind c.in_default.is) (sym c.is_opened.ensures ∙ c.if-not-is_opened.true)

pub returns-clause-history : goal.returns-clause-history
returns-clause-history c =
    all_read _ _ _ _ _ c.loop-left.invariant (ap lines_behind c.in_default.is) (sym c.is_opened.ensures ∙ c.if-not-is_opened.false)
