use Rattle.ob_checked.specs.View.{expression_of}
use Rattle.ob_layout.specs.Layout.{block_in}
use Rattle.ob_tree_law.specs.Work.{Value, work_nodes}
use Rattle.ob_tree_tasks.specs.Scoped.{own_in}
use Rattle.ob_tree_tasks.specs.WorkTasks.{with_first}
use Rattle.ob_tree_tasks.proofs.Giving.{Leads}
use Rattle.ob_tree_tasks.proofs.expressions.open_value.Given as goal

-- the value of the first operand is in front
abbrev pub invariant-loop-operand : goal.invariant-loop-operand
invariant-loop-operand l =
    Leads (block_in l.layout) (with_first (Value (own_in l.own) (expression_of l.initial.first)) l.initial.work) (with_first (Value (own_in l.own) (expression_of l.first)) l.work)

abbrev pub decreases-loop-operand : goal.decreases-loop-operand
decreases-loop-operand l = work_nodes (with_first (Value (own_in l.own) (expression_of l.first)) l.work).tasks
