use Rattle.std.proofs.Common.{Some, ap, sym, ◌∙◌, option_map}
use Rattle.ob_meaning.specs.ByPositionValue as Positions
use Rattle.ob_store.proofs.Parts.{value_in-parts}
use Rattle.ob_store.specs.View.{values_in}
use Rattle.ob_carry.proofs.fitting.with_parts.Goals as goal

pub returns-in-Some : goal.returns-in-Some
returns-in-Some c =
    ap (λ v. Some v) (value_in-parts c.in-Some.all) ∙ sym (ap (option_map (λ all. Positions.Parts (values_in all.items))) c.in-Some.is)
