use Rattle.std.proofs.Common.{ap, sym, subst, ◌∙◌}
use Rattle.ob_checked.specs.View.{expression_of}
use Rattle.ob_checked.proofs.Rows.{expression_of-value}
use Rattle.ob_meaning.specs.ByPositionEvaluation.{by_position}
use Rattle.ob_store.specs.View.{store_in}
use Rattle.ob_trap_places.specs.SitesOverStore as Sited
use Rattle.ob_trap_places.specs.Reaching.{Reaches}
use Rattle.ob_trap_places.proofs.Chains.{chain_begins}
use Rattle.ob_trap_places.proofs.values.+values.Goals as goal

pub value-returns-in-ValueOf : goal.value-returns-in-ValueOf
value-returns-in-ValueOf t c =
    subst (λ x. Reaches (λ s. s) x c.value_of_variable.result)
    (sym (ap (Sited.value_of by_position (store_in c.args.store.now)) (ap expression_of c.in-ValueOf.is ∙ expression_of-value _ c.in-ValueOf.variable)))
    c.value_of_variable.ensures

pub value-returns-in_ok-x-in-Computed : goal.value-returns-in_ok-x-in-Computed
value-returns-in_ok-x-in-Computed t c =
    subst (λ x. Reaches (λ s. s) x c.value_behind.result)
    (sym (chain_begins (store_in c.args.store.now) _ _ _ _ _ _ c.in-Computed.is c.in_ok-x-in-Computed.ensures c.deref-in-Computed.ensures c.as_slice.ensures.value))
    c.value_behind.ensures
