use Rattle.ob_tree_law.proofs.Height.{height_bounds}
use Rattle.ob_tree_law.proofs.work_laws.height_bounds.Goals as goal

pub returns : goal.returns
returns c = height_bounds
