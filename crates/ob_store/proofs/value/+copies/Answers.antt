use Rattle.std.proofs.Common.{ap, sym, ◌∙◌}
use Rattle.ob_meaning.specs.ByPositionValue as Values
use Rattle.ob_store.specs.View.{value_in, values_in}
use Rattle.ob_store.proofs.Parts.{value_in-parts, copied_more}
use Rattle.ob_store.proofs.value.+copies.Goals as goal

pub copy-returns-in_ok-copy_all-in-Parts : goal.copy-returns-in_ok-copy_all-in-Parts
copy-returns-in_ok-copy_all-in-Parts t c =
    value_in-parts c.in_ok-copy_all-in-Parts.field-0
    ∙ ap Values.Parts (c.in_ok-copy_all-in-Parts.ensures ∙ ap values_in c.as_slice.ensures.value)
    ∙ sym (ap value_in c.in-Parts.is ∙ value_in-parts c.in-Parts.parts)

pub copy_all-loop-value-preserved : goal.copy_all-loop-value-preserved
copy_all-loop-value-preserved t c =
    copied_more c.args.values.now c.loop-value.copies.items _ c.loop-value.value-index c.value-item.result c.in_ok-copy.field-0
    c.loop-value-test.true c.value-item.is c.in_ok-push.ensures.items c.in_ok-copy.ensures c.loop-value.invariant
