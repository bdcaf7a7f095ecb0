use Rattle.ob_tree_tasks.specs.Scoped.{own_in, type_in}
use Rattle.ob_tree_tasks.proofs.Pushed.{selectors_some}
use Rattle.ob_tree_tasks.proofs.expressions.leave_selectors.Goals as goal

pub returns-then-not-is_empty-clause-left : goal.returns-then-not-is_empty-clause-left
returns-then-not-is_empty-clause-left c =
    selectors_some (own_in c.args.own) _ _ _ (type_in c.args.layout.now c.args.data_type) _ c.is_empty.ensures c.if-not-is_empty.true c.push.ensures
