use Rattle.std.proofs.Common.{refl, ap, sym, ◌∙◌}
use Rattle.ob_checked.specs.View.{expression_of, slot_of, selectors_in, designator_of}
use Rattle.ob_meaning.specs.ByPositionEvaluation.{value_of}
use Rattle.ob_store.specs.View.{store_in, value_or_zero}
use Rattle.ob_mean.specs.Evaluating.{read_behind}
use Rattle.ob_checked.proofs.Rows.{expression_of-value}
use Rattle.ob_typing.specs.Arithmetic.{Gives}
use Rattle.ob_mean.proofs.Chains.{chain_begins}
use Rattle.ob_mean.proofs.Selectors.{read_begins, is_whole}
use Rattle.ob_mean.proofs.expressions.+evaluation.Goals as goal

pub evaluate-returns-in-ValueOf : goal.evaluate-returns-in-ValueOf
evaluate-returns-in-ValueOf t c =
    let store = store_in c.args.store.now in
    let d = c.in-ValueOf.variable in
    let v = value_or_zero c.value_of_slot.result in
    let none = is_whole d.selectors _ c.is_empty.ensures c.if-is_empty.true in
    ap Gives c.scalar_of.ensures ∙ ap (λ ss. read_behind store v (selectors_in ss)) (sym none)
    ∙ read_begins store v (designator_of d) (slot_of d.slot) _ refl c.value_of_slot.ensures
    ∙ sym (ap (value_of store) (ap expression_of c.in-ValueOf.is ∙ expression_of-value _ d))

pub evaluate_parts-returns-in-ValueOf : goal.evaluate_parts-returns-in-ValueOf
evaluate_parts-returns-in-ValueOf t c =
    c.read.ensures ∙ sym (ap (value_of (store_in c.args.store.now)) (ap expression_of c.in-ValueOf.is ∙ expression_of-value _ c.in-ValueOf.variable))

pub read-loop-selector-init : goal.read-loop-selector-init
read-loop-selector-init t c =
    let store = store_in c.args.store.now in
    let v = value_or_zero c.value_of_slot-value.result in
    ap (λ ss. read_behind store v (selectors_in ss)) c.deref-selector-items.ensures.value
    ∙ read_begins store v (designator_of c.args.variable.now) (slot_of c.args.variable.now.slot) _ refl c.value_of_slot-value.ensures

pub evaluate_parts-returns-in_ok-value-in-Computed : goal.evaluate_parts-returns-in_ok-value-in-Computed
evaluate_parts-returns-in_ok-value-in-Computed t c =
    c.evaluate_behind.ensures
    ∙ chain_begins (store_in c.args.store.now) _ _ _ _ _ _ c.in-Computed.is c.in_ok-value-in-Computed.ensures c.deref-in-Computed.ensures c.as_slice.ensures.value
