use Rattle.std.proofs.Common.{[], refl, ap, sym, ◌∙◌, set, length, arith}
use Rattle.ob_meaning.specs.ByPositionStore as Stores
use Rattle.ob_meaning.specs.ByPositionValue.{Single}
use Rattle.ob_store.specs.View.{variables_in}
use Rattle.ob_store.specs.Begun.{begun_by}
use Rattle.ob_store.specs.declared.value.Value.TheVariants as Variants
use Rattle.ob_store.proofs.Stored.{variables_set, scalar_put_back}
use Rattle.ob_store.proofs.store.Store.set_whole_variable.Goals as goal

pub returns-clause-stored : goal.returns-clause-stored
returns-clause-stored c =
    let variables = c.args.self.now.variables.items in
    let below = c.in-Some-Single.ensures.lookup.3.0 in
    let same = ap length c.deref.ensures.value in
    variables_set variables c.args.position c.index_mut.result.now (Variants.Single c.args.scalar) [] (Single c.args.scalar) (omega (arith, below, same)) refl

pub returns-clause-begun : goal.returns-clause-begun
returns-clause-begun c =
    let s = c.args.self.now in
    let below = c.in-Some-Single.ensures.lookup.3.0 in
    let same = ap length c.deref.ensures.value in
    let before = c.shorten.new.self in
    let written = variables_in (set s.variables.items c.args.position (Variants.Single c.args.scalar)) in
    c.in_ok-list_scalar.ensures.listed written
    ∙ ap (λ was. begun_by before (Stores.with_held written c.args.position [] (Single was))) c.in-Some-Single.held-is
    ∙ ap (begun_by before)
    (scalar_put_back s.variables.items c.deref.result.now c.args.position c.in-Some-Single.field-0.now (Variants.Single c.args.scalar) c.in-Some-Single.held
    c.deref.ensures.value (omega (arith, below, same)) c.in-Some-Single.ensures.lookup.1 c.in-Some-Single.field-0-is)
    ∙ ap (λ vs. begun_by before (variables_in vs)) (sym c.as_slice.ensures.value) ∙ c.shorten.ensures
    ∙ ap (λ vs. begun_by s.before (variables_in vs)) c.as_slice.ensures.value
