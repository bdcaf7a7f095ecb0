use Rattle.std.proofs.Common.{ap, sym, ◌∙◌, arith}
use Rattle.ob_meaning.specs.ByPositionValue as Values
use Rattle.ob_store.specs.View.{value_in, values_in}
use Rattle.ob_store.proofs.Parts.{value_in-parts}
use Rattle.ob_store.proofs.Overwritten.{same_more, size, size_of_all, size_at}
use Rattle.ob_store.proofs.value.+overwriting.Goals as goal

pub overwrite_all-overwrite_with-requires : goal.overwrite_all-overwrite_with-requires
overwrite_all-overwrite_with-requires t c =
    let less = size_at c.args.values.now c.loop-position.position c.index-values-position.result (omega arith) c.index-values-position.is in
    (omega (arith, less), tt)

pub overwrite_all-loop-position-preserved : goal.overwrite_all-loop-position-preserved
overwrite_all-loop-position-preserved t c =
    same_more c.loop-position.targets c.args.values.now c.loop-position.position c.overwrite_with.new.target c.index-values-position.result
    (omega (arith, c.loop-position.auto.targets)) (omega arith) c.index-values-position.is c.in_ok-overwrite_with.ensures c.loop-position.invariant

pub overwrite_with-parts_over-requires : goal.overwrite_with-parts_over-requires
overwrite_with-parts_over-requires t c =
    let whole = ap (λ v. size (value_in v)) c.in-Parts.is ∙ ap size (value_in-parts c.in-Parts.parts) in
    let own = ap (λ vs. size_of_all (values_in vs)) c.as_slice.ensures.value in
    (omega (arith, whole, own), tt)

pub overwrite_with-returns-in_ok-parts_over-in-Parts : goal.overwrite_with-returns-in_ok-parts_over-in-Parts
overwrite_with-returns-in_ok-parts_over-in-Parts t c =
    value_in-parts c.in_ok-parts_over-in-Parts.field-0
    ∙ ap Values.Parts (c.in_ok-parts_over-in-Parts.ensures ∙ ap values_in c.as_slice.ensures.value)
    ∙ sym (ap value_in c.in-Parts.is ∙ value_in-parts c.in-Parts.parts)
