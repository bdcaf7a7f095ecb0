use Rattle.ob_tree_law.proofs.Theorem.{tree_is_correct}
use Rattle.ob_tree_law.proofs.work_laws.tree_is_correct.Goals as goal

pub returns : goal.returns
returns c = tree_is_correct
