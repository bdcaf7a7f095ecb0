use Rattle.std.proofs.Common.{arith}
use Rattle.ob_text_values_reading.proofs.FirstLines.{few_lines}
use Rattle.ob_text_values_reading.proofs.comments.line_number.Goals as goal

pub overflow_add-number : goal.overflow_add-number
overflow_add-number c = let few = few_lines c.args.text.now in let counted = c.loop-left.invariant.counted in omega (arith, few, counted)

pub overflow_add-result : goal.overflow_add-result
overflow_add-result c = let few = few_lines c.args.text.now in let counted = c.loop-left.invariant.counted in omega (arith, few, counted)
