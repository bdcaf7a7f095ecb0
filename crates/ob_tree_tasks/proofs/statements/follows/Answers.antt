use Rattle.ob_tree_tasks.proofs.Pushed.{some_more}
use Rattle.ob_tree_tasks.proofs.statements.follows.Goals as goal

pub returns : goal.returns
returns c = some_more _ _ _ c.is_empty.ensures c.if-is_empty.false
