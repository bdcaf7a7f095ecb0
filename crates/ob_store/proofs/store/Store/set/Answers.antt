use Rattle.std.proofs.Common.{arith, ap, ◌∙◌, ◌∷◌, map}
use Rattle.std.proofs.lemmas.List.{with_items_is}
use Rattle.ob_meaning.specs.ByPositionStore as Stores
use Rattle.ob_meaning.specs.ByPositionValue.{Single}
use Rattle.ob_store.specs.View.{store_in, held_in, place_in, activation_in, variables_in}
use Rattle.ob_store.proofs.Stored.{first_stored, behind_stored, beyond_stored}
use Rattle.ob_store.proofs.store.Store.set.Goals.{then-behind-len, else-behind-len}
use Rattle.ob_store.proofs.store.Store.set.Goals as goal

pub returns-then-place-eq0-clause-stored : goal.returns-then-place-eq0-clause-stored
returns-then-place-eq0-clause-stored c =
    first_stored (variables_in c.args.self.now.variables.items) (place_in c.args.place) (Single c.args.scalar) (variables_in c.set_variable.new.self.variables.items) _
    c.if-place-eq0.true c.in_ok-set_variable.ensures.stored
    ∙ ap (λ others. Stores.stored (variables_in c.args.self.now.variables.items ∷ map activation_in others.items) (place_in c.args.place) (Single c.args.scalar)) c.in_ok-set_variable.ensures.others

pub returns-clause-stored : goal.returns-clause-stored
returns-clause-stored c =
    let s = c.args.self.now in
    let place = place_in c.args.place in
    let w = Single c.args.scalar in
    elim c.if-behind-len.branch [
      | then-behind-len b ↦
          let was = b.index_mut.result.now in
          ap store_in b.self-is
          ∙ behind_stored (variables_in s.variables.items) place w s.others.items (omega arith) was _ (omega (arith, s.others.ok.0)) b.index_mut.ensures.value
          (ap (map held_in) (with_items_is was b.put_held.new.activation (omega (arith, was.ok.0)))
          ∙ b.put_held.ensures
          ∙ ap (λ hs. Stores.with_held (map held_in hs) place.position b.as_slice.result.now w) b.as_mut_slice.ensures.value
          ∙ ap (λ path. Stores.with_held (map held_in was.items) place.position path w) b.as_slice.ensures)
      | else-behind-len b ↦
          ap store_in b.self-is
          ∙ beyond_stored (variables_in s.variables.items) place w s.others.items (omega arith) (omega (arith, s.others.ok.0))
    ]
