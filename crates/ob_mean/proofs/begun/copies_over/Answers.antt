use Rattle.std.proofs.Common.{◌≡◌, ◌+◌, [], ◌∷◌, ◌++◌, ap, refl, ◌∙◌, arith, length}
use Rattle.std.proofs.lemmas.List.{with_items_is}
use Rattle.ob_meaning.specs.ByPositionValue as Values
use Rattle.ob_store.specs.View.{value_in, values_in}
use Rattle.ob_mean.proofs.InitialValues.{copies_more}
use Rattle.ob_mean.proofs.begun.copies_over.Goals as goal

pub returns : goal.returns
returns c =
    let others = length c.as_mut_slice.result.now in
    let same = ap length c.as_mut_slice.ensures.value in
    let count : others + 1 ≡ c.args.count = omega (arith, same) in
    ap values_in c.in_ok-push.ensures.items
    ∙ ap (λ vs. values_in (vs ++ c.args.value ∷ [])) (with_items_is c.args.old c.overwrite_each.new.targets (omega (arith, c.args.old.ok.0)))
    ∙ copies_more _ c.args.value others (value_in c.args.value) c.in_ok-overwrite_each.ensures refl
    ∙ ap (λ n. Values.copies n (value_in c.args.value)) count
