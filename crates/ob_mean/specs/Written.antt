-- Statements by their parts, as the checked program has them.
use Rattle.std.specs.Prelude.{List, Option, Vec}
use Rattle.std.specs.declared.alloc.Global.{Global}
use Rattle.ob_checked.specs.declared.program.Branch.{Branch}
use Rattle.ob_checked.specs.declared.program.Designator.{Designator}
use Rattle.ob_checked.specs.declared.program.Expression.{Expression}
use Rattle.ob_checked.specs.declared.program.Statement.{Statement}
use Rattle.ob_checked.specs.View.{branches_in, designator_of, expression_of, otherwise_of, statements_in}
use Rattle.ob_typing.specs.Program as Programs

abbrev pub assign_of : Designator → Expression → Programs.Statement
assign_of target value = Programs.Assign (designator_of target) (expression_of value)

-- the choice of an IF: its alternatives, before what stands behind ELSE
abbrev pub choice_of : List Branch → Option (Vec Statement Global) → Programs.Branches
choice_of branches otherwise = branches_in branches (otherwise_of otherwise)

abbrev pub while_of : Expression → List Statement → Programs.Statement
while_of condition body = Programs.While (expression_of condition) (statements_in body)

abbrev pub repeat_of : List Statement → Expression → Programs.Statement
repeat_of body condition = Programs.Repeat (statements_in body) (expression_of condition)
