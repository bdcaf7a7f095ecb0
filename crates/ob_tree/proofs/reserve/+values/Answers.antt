use Rattle.std.proofs.Common.{ap, ◌∙◌}
use Rattle.ob_tree_law.specs.Reserve as Counts
use Rattle.ob_checked.specs.View.{expression_of}
use Rattle.ob_checked.proofs.Rows.{expression_of-value}
use Rattle.ob_tree.proofs.Reserved.{plus_counted, chain_counted}
use Rattle.ob_tree.proofs.reserve.+values.Goals as goal

pub value_most-returns-in-ValueOf : goal.value_most-returns-in-ValueOf
value_most-returns-in-ValueOf t c =
    plus_counted _ _ _ 1 _ (ap Counts.value_most (ap expression_of c.in-ValueOf.is ∙ expression_of-value _ c.in-ValueOf.variable)) c.address_most.ensures c.saturating_add.ensures

pub value_most-returns-in-Computed : goal.value_most-returns-in-Computed
value_most-returns-in-Computed t c =
    chain_counted _ _ _ _ _ _ _ _ _ c.in-Computed.is c.deref-in-Computed.ensures c.as_slice.ensures.value c.value_most-in-Computed.ensures c.saturating_add-most.ensures
    c.operators_most.ensures c.max.ensures
