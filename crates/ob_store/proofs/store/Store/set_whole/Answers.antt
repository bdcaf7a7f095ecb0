use Rattle.std.proofs.Common.{[], ap, ◌∙◌, map, arith}
use Rattle.std.proofs.lemmas.List.{with_items_is}
use Rattle.ob_meaning.specs.ByPositionStore as Stores
use Rattle.ob_meaning.specs.ByPositionValue.{Single}
use Rattle.ob_store.specs.View.{held_in, variables_in}
use Rattle.ob_store.proofs.Stored.{behind_stored}
use Rattle.ob_store.proofs.store.Store.set_whole.Goals as goal

pub returns-then-behind-len-clause-stored : goal.returns-then-behind-len-clause-stored
returns-then-behind-len-clause-stored c =
    let s = c.args.self.now in
    let place : Stores.Place = record { activation = c.args.activation; position = c.args.position; path = [] } in
    let w = Single c.args.scalar in
    let was = c.index_mut.result.now in
    behind_stored (variables_in s.variables.items) place w s.others.items (omega arith) was _ (omega (arith, s.others.ok.0)) c.index_mut.ensures.value
    (ap (map held_in) (with_items_is was c.put_held.new.activation (omega (arith, was.ok.0)))
    ∙ c.put_held.ensures
    ∙ ap (λ hs. Stores.with_held (map held_in hs) place.position [] w) c.as_mut_slice.ensures.value)
