use Rattle.wf_table.proofs.Lowers.{outside_lowers, inside_leaves_at}
use Rattle.wf_theorems.proofs.bound.every_step.Goals as goal

pub returns-clause-outside : goal.returns-clause-outside
returns-clause-outside g c = λ e z cell p q sized range next body. outside_lowers z q.label (g.E.Engine.meaning e) cell p q sized range next body

pub returns-clause-inside : goal.returns-clause-inside
returns-clause-inside g c = λ e z cell p q at. inside_leaves_at z q.label (g.E.Engine.meaning e) cell p q at
