use Rattle.ob_tree_law.proofs.Theorem.{work_keeps_within}
use Rattle.ob_tree_law.proofs.work_laws.work_keeps_within.Goals as goal

pub returns : goal.returns
returns c = work_keeps_within
