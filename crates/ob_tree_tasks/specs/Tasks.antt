-- What the tasks of a work list stand for.
use Rattle.std.specs.Prelude.{ℕ, List, map, take, reverse}
use Rattle.ob_typing.specs.Program as Program
use Rattle.ob_checked.specs.View.{expression_of, operations_in, selectors_in, actual_of, statements_in, branches_in, otherwise_of}
use Rattle.ob_checked.specs.declared.program.Expression.{Expression}
use Rattle.ob_checked.specs.declared.program.Statement.{Statement}
use Rattle.ob_code_scheme.specs.Types.{Scope}
use Rattle.ob_tree_law.specs.Work as Work
use Rattle.ob_tree_tasks.specs.Scoped.{own_in, type_in}
use Rattle.ob_tree_tasks.specs.declared.task.Task.{Task}
use Rattle.ob_tree_tasks.specs.declared.task.Task.TheVariants.{Value, Operators, Selecting, Handing, While, Repeat, All, Choosing, Instruction, AndThen, OrElse, Alternative, Over, Looping, Again, Until, Taking, Calling, Leaving}

-- WHILE
abbrev pub while_task : Scope → Expression → List Statement → Work.Task
while_task own condition body = Work.Doing own (Program.While (expression_of condition) (statements_in body))

-- REPEAT
abbrev pub repeat_task : Scope → List Statement → Expression → Work.Task
repeat_task own body condition = Work.Doing own (Program.Repeat (statements_in body) (expression_of condition))

abbrev pub task_of : Task → Work.Task
task_of (Value own expression) = Work.Value (own_in own) (expression_of expression.now)
task_of (Operators own operations) = Work.Operators (own_in own) (operations_in operations.now)
task_of (Selecting own layout data_type selectors) = Work.Selecting (own_in own) (type_in layout.now data_type) (selectors_in selectors.now)
task_of (Handing own actuals) = Work.Handing (own_in own) (map actual_of actuals.now)
task_of (While own condition body) = while_task (own_in own) condition.now body.now
task_of (Repeat own body condition) = repeat_task (own_in own) body.now condition.now
task_of (All own statements) = Work.All (own_in own) (statements_in statements.now)
task_of (Choosing own branches otherwise) = Work.Choosing (own_in own) (branches_in branches.now (otherwise_of otherwise.now))
task_of (Instruction instr) = Work.Instruction instr
task_of (AndThen own right) = Work.AndThen (own_in own) (expression_of right.now)
task_of (OrElse own right) = Work.OrElse (own_in own) (expression_of right.now)
task_of (Alternative own body branches otherwise) =
    Work.Alternative (own_in own) (statements_in body.now) (branches_in branches.now (otherwise_of otherwise.now))
task_of Over = Work.Over
task_of (Looping own condition body) = Work.Looping (own_in own) (expression_of condition.now) (statements_in body.now)
task_of (Again own condition body) = Work.Again (own_in own) (expression_of condition.now) (statements_in body.now)
task_of (Until own body condition) = Work.Until (own_in own) (statements_in body.now) (expression_of condition.now)
task_of Taking = Work.Taking
task_of (Calling procedure parameters) = Work.Calling procedure parameters
task_of Leaving = Work.Leaving

-- the first so many, the last one in front
abbrev pub tasks_of : List Task → ℕ → List Work.Task
tasks_of tasks count = map task_of (reverse (take count tasks))
