-- What comes of an expression or of an operator: it is opened, or its first operand is left, for whoever opens that.
use Rattle.std.specs.Prelude.{◌≡◌, MatchOption, Option}
use Rattle.std.specs.Borrow.{Bor}
use Rattle.ob_checked.specs.View.{expression_of}
use Rattle.ob_checked.specs.declared.program.Expression as Checked
use Rattle.ob_code_scheme.specs.Types.{Scope}
use Rattle.ob_tree_tasks.specs.Opening.{GivesWay}
use Rattle.ob_tree_tasks.specs.WorkTasks.{WorkTasks, before, with_first, with_tasks}
use Rattle.ob_tree_law.specs.Work.{Value, operator_tasks, value_parts}
use Rattle.ob_typing.specs.Program.{Expression}
use Rattle.ob_typing.specs.declared.operator.BinaryOperator.{BinaryOperator}

-- the value of an expression gives way; or with the value of an operand in front the tasks are the parts of the expression
abbrev pub OpensOuter : (globals own : Scope) → Expression → (old new : WorkTasks) → Option (Bor Checked.Expression) → Type 0
OpensOuter globals own e old new left =
    MatchOption left
    (GivesWay globals (with_first (Value own e) old) new)
    (λ operand. with_first (Value own (expression_of operand.now)) new ≡ before (value_parts globals own e) old)

-- an operator and its right operand come to their tasks; or they do with the value of that operand in front
abbrev pub OpensOperator : (own : Scope) → BinaryOperator → Expression → (old new : WorkTasks) → Option (Bor Checked.Expression) → Type 0
OpensOperator own operator e old new left =
    MatchOption left
    (new ≡ with_tasks old (operator_tasks own operator e old.tasks))
    (λ operand. with_first (Value own (expression_of operand.now)) new ≡ with_tasks old (operator_tasks own operator e old.tasks))
