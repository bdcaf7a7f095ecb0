use Rattle.ob_tree_law.proofs.Theorem.{tree_is_like_code}
use Rattle.ob_tree_law.proofs.work_laws.tree_is_like_code.Goals as goal

pub returns : goal.returns
returns c = tree_is_like_code
