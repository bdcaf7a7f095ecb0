use Rattle.ob_tree_tasks.specs.Scoped.{own_in}
use Rattle.ob_tree_tasks.proofs.Pushed.{statements_some}
use Rattle.ob_tree_tasks.proofs.statements.leave_statements.Goals as goal

pub returns-then-not-is_empty-clause-left : goal.returns-then-not-is_empty-clause-left
returns-then-not-is_empty-clause-left c = statements_some (own_in c.args.own) _ _ _ _ c.is_empty.ensures c.if-not-is_empty.true c.push.ensures
