use Rattle.std.proofs.Common.{ap, ◌∙◌, arith}
use Rattle.std.proofs.lemmas.List.{with_items_is}
use Rattle.ob_store.specs.View.{variables_in}
use Rattle.ob_store.specs.Begun.{taken_back}
use Rattle.ob_store.proofs.Stored.{same_variables}
use Rattle.ob_store.proofs.before.copied_back.Goals as goal

pub returns-clause-begun : goal.returns-clause-begun
returns-clause-begun c =
    let variables = c.args.variables.now in
    let begun = c.in_ok-begun.begun in
    ap variables_in (with_items_is begun c.take_all_back.new.variables (omega (arith, begun.ok.0)))
    ∙ c.take_all_back.ensures
    ∙ ap (taken_back c.args.writes.now.items) (ap variables_in c.as_mut_slice.ensures.value ∙ same_variables begun.items variables c.in_ok-begun.ensures)
