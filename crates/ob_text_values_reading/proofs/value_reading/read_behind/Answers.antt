use Rattle.std.proofs.Common.{◌∙◌, ap, length, map, arith}
use Rattle.ob_carry.specs.View.{entry_of}
use Rattle.ob_text_values_reading.proofs.Indexing.{indexed_none}
use Rattle.ob_text_values_reading.proofs.VariableLines.{none_read, number_within, one_line_more}
use Rattle.ob_text_values_reading.specs.RecordTexts.{lines_behind}
use Rattle.ob_text_values_reading.proofs.value_reading.read_behind.Goals as goal

pub loop-left-init : goal.loop-left-init
loop-left-init c = record { read = none_read _ _ (ap (map entry_of) c.requires.empty); indexed = indexed_none _ _ (ap (map entry_of) c.requires.empty) c.new-names.ensures.empty }

pub overflow_add-number : goal.overflow_add-number
overflow_add-number c =
    let here = number_within _ _ _ _ c.loop-left.invariant.read in
    let one_less = ap length (ap lines_behind c.in-Some.is ∙ c.split_line.ensures) in
    omega (arith, here, one_less, c.requires.few)

pub loop-left-smaller : goal.loop-left-smaller
loop-left-smaller c =
    let one_less = ap length (ap lines_behind c.in-Some.is ∙ c.split_line.ensures) in
    omega (arith, one_less)

pub loop-left-preserved : goal.loop-left-preserved
loop-left-preserved c =
    record {
      read = one_line_more _ _ _ _ _ _ c.loop-left.invariant.read (ap lines_behind c.in-Some.is ∙ c.split_line.ensures) _ (rw c.if-not-branch.false at c.in_ok-take_line.ensures.told);
      indexed = c.in_ok-take_line.ensures.indexed;
    }
