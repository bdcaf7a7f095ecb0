use Rattle.std.proofs.Common.{◌∙◌, codes, List, ap, arith, length, refl, sym}
use Rattle.ob_object_draw.specs.Forms.{begin_with}
use Rattle.ob_text_reading.specs.RecordLines.{Line}
use Rattle.ob_text_values_reading.proofs.SaidLines.{said_on, said_over}
use Rattle.ob_text_values_reading.specs.Comments.{said}
use Rattle.ob_text_values_reading.specs.RecordTexts.{lines_behind}
use Rattle.ob_text_words.specs.Words.{words}
use Rattle.ob_object_draw.proofs.record_form.has_title.Goals as goal

pub loop-left-init : goal.loop-left-init
loop-left-init c = refl

pub returns-then-not-is_comment : goal.returns-then-not-is_comment
returns-then-not-is_comment c =
    let parts = ap lines_behind c.in-Some.is ∙ c.split_line.ensures in
    let none = sym c.is_comment.ensures ∙ c.if-not-is_comment.true in
    c.begins_with.ensures
    ∙ sym (c.loop-left.invariant ∙ ap (λ (ls : List Line). begin_with (codes "obl0") (said ls)) parts
    ∙ ap (begin_with (codes "obl0")) (said_on (words c.split_line.result.0.now) (lines_behind c.split_line.result.1) none))

pub loop-left-smaller : goal.loop-left-smaller
loop-left-smaller c =
    let one_less = ap (λ (ls : List Line). length ls) (ap lines_behind c.in-Some.is ∙ c.split_line.ensures) in
    omega (arith, one_less)

pub loop-left-preserved : goal.loop-left-preserved
loop-left-preserved c =
    let parts = ap lines_behind c.in-Some.is ∙ c.split_line.ensures in
    let some = sym c.is_comment.ensures ∙ c.if-not-is_comment.false in
    c.loop-left.invariant ∙ ap (λ (ls : List Line). begin_with (codes "obl0") (said ls)) parts
    ∙ ap (begin_with (codes "obl0")) (said_over (words c.split_line.result.0.now) (lines_behind c.split_line.result.1) some)

pub returns : goal.returns
returns c = sym (c.loop-left.invariant ∙ ap (λ (ls : List Line). begin_with (codes "obl0") (said ls)) (ap lines_behind c.in_default.is))
