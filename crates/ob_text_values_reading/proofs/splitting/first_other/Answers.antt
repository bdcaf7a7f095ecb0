use Rattle.std.proofs.Common.{◌∙◌, ap, sym, length, arith}
use Rattle.std.proofs.lemmas.Bool.{false≢true}
use Rattle.ob_text_values_reading.specs.RecordTexts.{lines_behind}
use Rattle.ob_text_values_reading.proofs.Tails.{all_tails, no_tail_yet, one_tail_more, other_here, tail_within}
use Rattle.ob_text_values_reading.proofs.splitting.first_other.Goals as goal

pub loop-left-init : goal.loop-left-init
loop-left-init c = no_tail_yet _

pub returns-then-not-is_tail_line-clause-below : goal.returns-then-not-is_tail_line-clause-below
returns-then-not-is_tail_line-clause-below c = tail_within _ _ _ _ _ c.loop-left.invariant (ap lines_behind c.in-Some.is ∙ c.split_line.ensures)

pub returns-then-not-is_tail_line-clause-place : goal.returns-then-not-is_tail_line-clause-place
returns-then-not-is_tail_line-clause-place c =
    other_here _ _ _ _ _ c.loop-left.invariant (ap lines_behind c.in-Some.is ∙ c.split_line.ensures)
    (λ h. false≢true (sym c.if-not-is_tail_line.true ∙ c.is_tail_line.ensures.1 h))

pub overflow_add-place : goal.overflow_add-place
overflow_add-place c =
    let inside = tail_within _ _ _ _ _ c.loop-left.invariant (ap lines_behind c.in-Some.is ∙ c.split_line.ensures) in
    omega (arith, inside, c.requires)

pub loop-left-smaller : goal.loop-left-smaller
loop-left-smaller c =
    let one_less = ap length (ap lines_behind c.in-Some.is ∙ c.split_line.ensures) in
    omega (arith, one_less)

pub loop-left-preserved : goal.loop-left-preserved
loop-left-preserved c =
    one_tail_more _ _ _ _ _ c.loop-left.invariant (ap lines_behind c.in-Some.is ∙ c.split_line.ensures)
    (c.is_tail_line.ensures.0 c.if-not-is_tail_line.false)

pub returns-clause-place : goal.returns-clause-place
returns-clause-place c = all_tails _ _ _ c.loop-left.invariant (ap lines_behind c.in_default.is)
