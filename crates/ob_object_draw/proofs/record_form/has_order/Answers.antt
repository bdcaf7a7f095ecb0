use Rattle.std.proofs.Common.{◌∙◌, ◌||◌, codes, Bool, List, ap, arith, length, refl, sym}
use Rattle.std.specs.List.{list_any}
use Rattle.ob_object_draw.specs.Forms.{begins_with}
use Rattle.ob_text_reading.specs.RecordLines.{Line}
use Rattle.ob_text_values_reading.specs.RecordTexts.{lines_behind}
use Rattle.ob_object_draw.proofs.record_form.has_order.Goals as goal

pub loop-left-init : goal.loop-left-init
loop-left-init c = refl

pub returns-then-begins_with : goal.returns-then-begins_with
returns-then-begins_with c =
    let parts = ap lines_behind c.in-Some.is ∙ c.split_line.ensures in
    let here = sym c.begins_with.ensures ∙ c.if-begins_with.true in
    sym (c.loop-left.invariant ∙ ap (list_any (begins_with (codes "O"))) parts ∙ ap (λ (b : Bool). b || list_any (begins_with (codes "O")) (lines_behind c.split_line.result.1)) here)

pub loop-left-smaller : goal.loop-left-smaller
loop-left-smaller c =
    let one_less = ap (λ (ls : List Line). length ls) (ap lines_behind c.in-Some.is ∙ c.split_line.ensures) in
    omega (arith, one_less)

pub loop-left-preserved : goal.loop-left-preserved
loop-left-preserved c =
    let parts = ap lines_behind c.in-Some.is ∙ c.split_line.ensures in
    let here = sym c.begins_with.ensures ∙ c.if-begins_with.false in
    c.loop-left.invariant ∙ ap (list_any (begins_with (codes "O"))) parts ∙ ap (λ (b : Bool). b || list_any (begins_with (codes "O")) (lines_behind c.split_line.result.1)) here

pub returns : goal.returns
returns c = sym (c.loop-left.invariant ∙ ap (λ (ls : List Line). list_any (begins_with (codes "O")) ls) (ap lines_behind c.in_default.is))
