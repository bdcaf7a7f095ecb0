use Rattle.ob_tree_law.proofs.Simulated as Proved
use Rattle.ob_tree_law.proofs.laws.bodies_show_the_same.Goals as goal

pub returns : goal.returns
returns c = Proved.bodies_show_the_same
