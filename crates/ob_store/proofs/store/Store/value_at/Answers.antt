use Rattle.std.proofs.Common.{ap, sym, ◌∙◌}
use Rattle.ob_meaning.specs.ByPositionValue as Values
use Rattle.ob_store.proofs.Parts.{selected-single}
use Rattle.ob_store.proofs.store.Store.value_at.Goals as goal

pub returns-in-None : goal.returns-in-None
returns-in-None c =
    let path = c.args.place.now.path.items in
    sym (ap (λ v. Values.selected v path) (sym c.in-None.ensures) ∙ selected-single _ path)
