use Rattle.std.proofs.Common.{◌∙◌, List, ap, arith, length, sym, take}
use Rattle.ob_text_values_reading.proofs.FirstLines.{few_lines}
use Rattle.ob_text_values_reading.proofs.SaidLines.{taken_on, taken_over}
use Rattle.ob_text_values_reading.specs.Comments.{said}
use Rattle.ob_text_values_reading.specs.RecordTexts.{Line, lines_behind}
use Rattle.ob_text_words.specs.Words.{words}
use Rattle.ob_text_values_reading.proofs.comments.said_number.Goals as goal
use Rattle.ob_text_values_reading.proofs.comments.said_number.Goals.{then-not-is_comment, else-not-is_comment}

pub overflow_add-said : goal.overflow_add-said
overflow_add-said c =
    let few = few_lines c.args.text.now in
    let so_far = c.loop-left.invariant.few in
    let one = ap length (ap lines_behind c.in-Some.is ∙ c.split_line.ensures) in
    omega (arith, few, so_far, one)

pub loop-left-preserved : goal.loop-left-preserved
loop-left-preserved c =
    let parts = ap lines_behind c.in-Some.is ∙ c.split_line.ensures in
    let one = ap length parts in
    let here = ap (λ (ls : List Line). length (said (take c.loop-left.before ls))) parts in
    let so_far = c.loop-left.invariant.counted in
    let few = c.loop-left.invariant.few in
    elim c.if-not-is_comment.branch [
      | then-not-is_comment w ↦
          let more = w.said-is in
          let on = taken_on c.loop-left.before (words c.split_line.result.0.now) (lines_behind c.split_line.result.1) c.if-before-eq0.false (sym c.is_comment.ensures ∙ w.if-not-is_comment.true) in
          record { counted = omega (arith, so_far, here, on, more); few = omega (arith, few, one, more) }
      | else-not-is_comment w ↦
          let same = w.said-is in
          let over = taken_over c.loop-left.before (words c.split_line.result.0.now) (lines_behind c.split_line.result.1) c.if-before-eq0.false (sym c.is_comment.ensures ∙ w.if-not-is_comment.false) in
          record { counted = omega (arith, so_far, here, over, same); few = omega (arith, few, one, same) }
    ]
