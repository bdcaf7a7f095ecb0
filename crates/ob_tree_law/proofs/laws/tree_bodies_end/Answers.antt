use Rattle.ob_tree_law.proofs.Whole as Proved
use Rattle.ob_tree_law.proofs.laws.tree_bodies_end.Goals as goal

pub returns-clause-bodies : goal.returns-clause-bodies
returns-clause-bodies c = Proved.tree_bodies_end

pub returns-clause-scripts : goal.returns-clause-scripts
returns-clause-scripts c = Proved.tree_scripts_end
