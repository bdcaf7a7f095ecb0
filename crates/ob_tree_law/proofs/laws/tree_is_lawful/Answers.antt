use Rattle.ob_tree_law.proofs.Whole as Proved
use Rattle.ob_tree_law.proofs.laws.tree_is_lawful.Goals as goal

pub returns-clause-program : goal.returns-clause-program
returns-clause-program c = Proved.tree_is_lawful

pub returns-clause-parts : goal.returns-clause-parts
returns-clause-parts c = Proved.tree_parts_lawful
