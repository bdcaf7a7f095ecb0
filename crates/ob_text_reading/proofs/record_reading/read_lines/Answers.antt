use Rattle.std.proofs.Common.{◌∙◌, ap, length, arith}
use Rattle.ob_text_reading.proofs.RecordHeads.{count_missing, fault_result, no_count, no_title, told_result}
use Rattle.ob_text_reading.specs.RecordLines as Lines
use Rattle.ob_text_values_reading.proofs.FirstLines.{few_lines}
use Rattle.ob_text_values_reading.specs.RecordTexts.{lines_behind}
use Rattle.ob_text_reading.proofs.record_reading.read_lines.Goals as goal

pub returns-in_default-clause-fault : goal.returns-in_default-clause-fault
returns-in_default-clause-fault c =
    rw c.split_line.ensures (no_title _ _ _ (rw (c.deref.ensures.value, c.in_ok-first.ensures) at c.in_default.ensures))

pub returns-in_default-behind-clause-fault : goal.returns-in_default-behind-clause-fault
returns-in_default-behind-clause-fault c =
    rw (c.split_line.ensures, ap lines_behind c.in_default-behind.is) (count_missing _ _ _ (rw (c.deref.ensures.value, c.in_ok-first.ensures) at c.in-Some.ensures))

pub returns-in_default-read_count-clause-fault : goal.returns-in_default-read_count-clause-fault
returns-in_default-read_count-clause-fault c =
    rw (c.split_line.ensures, ap lines_behind c.in-Some-behind.is ∙ c.split_line-2.ensures)
    (no_count _ _ _ _ _ (rw (c.deref.ensures.value, c.in_ok-first.ensures) at c.in-Some.ensures) (rw (c.deref-2.ensures.value, c.in_ok-second.ensures) at c.in_default-read_count.ensures))

pub read_behind-requires : goal.read_behind-requires
read_behind-requires c =
    let few = few_lines c.args.text.now in
    let first = ap length c.split_line.ensures in
    let second = ap length (ap lines_behind c.in-Some-behind.is ∙ c.split_line-2.ensures) in
    rw c.plain_head-head.ensures (omega (arith, few, first, second))

pub read_second-requires : goal.read_second-requires
read_second-requires c =
    let few = few_lines c.args.text.now in
    let first = ap length c.split_line.ensures in
    let second = ap length (ap lines_behind c.in-Some-behind.is ∙ c.split_line-2.ensures) in
    omega (arith, few, first, second)

pub read_third-requires : goal.read_third-requires
read_third-requires c =
    let few = few_lines c.args.text.now in
    let first = ap length c.split_line.ensures in
    let second = ap length (ap lines_behind c.in-Some-behind.is ∙ c.split_line-2.ensures) in
    omega (arith, few, first, second)

pub returns-in-First-clause-record : goal.returns-in-First-clause-record
returns-in-First-clause-record c =
    rw (c.split_line.ensures, ap lines_behind c.in-Some-behind.is ∙ c.split_line-2.ensures)
    (told_result _ _ _ _ _
    (Lines.of_version_1 (rw (c.deref.ensures.value, c.in_ok-first.ensures, c.in-First.is) at c.in-Some.ensures) (rw (c.deref-2.ensures.value, c.in_ok-second.ensures) at c.in-Some-read_count.ensures))
    _ _ (rw c.plain_head-head.ensures at c.read_behind.ensures.told) (rw (c.plain_head-head.ensures, c.exports.ensures) at c.read_behind.ensures.record))

pub returns-in-First-clause-fault : goal.returns-in-First-clause-fault
returns-in-First-clause-fault c =
    rw (c.split_line.ensures, ap lines_behind c.in-Some-behind.is ∙ c.split_line-2.ensures)
    (fault_result _ _ _ _ _
    (Lines.of_version_1 (rw (c.deref.ensures.value, c.in_ok-first.ensures, c.in-First.is) at c.in-Some.ensures) (rw (c.deref-2.ensures.value, c.in_ok-second.ensures) at c.in-Some-read_count.ensures))
    _ _ (rw (c.plain_head-head.ensures, c.exports.ensures) at c.read_behind.ensures.fault))
