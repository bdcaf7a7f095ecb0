use Rattle.std.proofs.Common.{ap, sym, ◌∙◌}
use Rattle.ob_meaning.specs.ByPositionValue as Values
use Rattle.ob_store.specs.View.{value_in, values_in}
use Rattle.ob_store.proofs.Parts.{value_in-parts}
use Rattle.ob_store.proofs.value.Value.inside.Goals as goal

pub returns-in-Parts : goal.returns-in-Parts
returns-in-Parts c =
    c.part_at.ensures ∙ ap (λ vs. Values.part_at (values_in vs) c.args.position) c.as_slice.ensures.value
    ∙ sym (ap (λ v. Values.inside v c.args.position) (ap value_in c.in-Parts.is ∙ value_in-parts c.in-Parts.parts))
