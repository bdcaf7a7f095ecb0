-- What runs with sites come to.
use Rattle.std.specs.Borrow.{Bor}
use Rattle.std.specs.Prelude.{◌≡◌, ℕ, ◌-◌, List, MatchOption, None, Option, Some, Result, Ok, Err, Vec, slice_get}
use Rattle.std.specs.Global.{Global}
use Rattle.ob_checked.specs.View.{branches_in, expression_of, otherwise_of, procedure_of, program_of, statements_in, table_of}
use Rattle.ob_checked.specs.declared.program.Branch as CodeBranch
use Rattle.ob_checked.specs.declared.program.Expression as CodeExpression
use Rattle.ob_checked.specs.declared.program.Procedure as CodeProcedure
use Rattle.ob_checked.specs.declared.program.Program as CodeProgram
use Rattle.ob_checked.specs.declared.program.Statement as CodeStatement
use Rattle.ob_mean.specs.declared.statements.Context.{Context}
use Rattle.ob_meaning.specs.ByPositionStore.{Held, Store}
use Rattle.ob_meaning.specs.ByPositionEvaluation.{by_position}
use Rattle.ob_trap_places.specs.Site.{Site, Sited, Yields, TrapsAt, of_part, of_procedure, site_of}
use Rattle.ob_trap_places.specs.SitesOverStore as Sited
use Rattle.ob_trap_places.specs.TrapOfCall.{export_number}
use Rattle.ob_typing.specs.Program.{Designator, Expression, Statement, Assign, While, Repeat, Statements, Procedure, Program, exports}
use Rattle.ob_meaning.specs.ByNameObject.{most_activations}
use Rattle.ob_trap_places.specs.declared.site.Halt.{Halt}
use Rattle.ob_trap_places.specs.declared.site.Halt.TheVariants as Halts
use Rattle.ob_trap_places.specs.Reaching as Reaching

-- a run came to this, trapped at this site, or memory was wanted
abbrev pub Comes : Sited (ℕ × Store) → Result ℕ Halt → Store → Type 0
Comes o (Ok turns) store = o ≡ Yields (turns, store)
Comes o (Err (Halts.Trap site)) store = o ≡ TrapsAt (Reaching.site_of site)
Comes o (Err Halts.NoMemory) store = Unit {0}

-- what calls in the text do where so many more activations may be made
abbrev pub calls_of : Context → Sited.Calls by_position
calls_of context = Sited.calls by_position (program_of context.program.now) context.more

-- in such a context, from the turns left and a store to both behind statements
abbrev pub all_in : Context → Statements → Sited.Run by_position
all_in context ss = Sited.meaning_of_all by_position (calls_of context) 0 ss

-- behind a statement, of which loops are some
abbrev pub one_in : Context → Statement → Sited.Run by_position
one_in context s = Sited.meaning by_position (calls_of context) s

abbrev pub while_in : Context → CodeExpression.Expression → List CodeStatement.Statement → Sited.Run by_position
while_in context condition body = one_in context (While (expression_of condition) (statements_in body))

abbrev pub repeat_in : Context → List CodeStatement.Statement → CodeExpression.Expression → Sited.Run by_position
repeat_in context body condition = one_in context (Repeat (statements_in body) (expression_of condition))

-- behind branches, with what stands behind ELSE
abbrev pub choice_in : Context → List CodeBranch.Branch → Option (Vec CodeStatement.Statement Global) → Sited.Run by_position
choice_in context branches otherwise =
    Sited.meaning_of_branches by_position (calls_of context) 0 (branches_in branches (otherwise_of otherwise))

-- behind the statements of the branch of a number
abbrev pub branch_in : Context → (number : ℕ) → Statements → Sited.Run by_position
branch_in context number ss turns store = of_part number (of_part 1 (all_in context ss turns store))

-- behind a procedure in an activation of its own
abbrev pub activated_in : Context → CodeProcedure.Procedure → List Held → Sited.Run by_position
activated_in context procedure handed =
    Sited.activated by_position (calls_of context) (Some (procedure_of (table_of context.program.now.types) procedure)) handed

-- an assignment, which makes no call: so it comes to this whatever calls do
abbrev pub AssignComes : Designator → Expression → (turns : ℕ) → Store → Result ℕ Halt → Store → Type 0
AssignComes target value turns store result after =
    (calls : Sited.Calls by_position) → Comes (Sited.meaning by_position calls (Assign target value) turns store) result after

-- the export of a number is this procedure, which has that number among all
abbrev pub IsExport : Program → (export : ℕ) → (number : ℕ) → Procedure → Type 0
IsExport program export number p = (slice_get (exports program) export ≡ Some p) × (export_number program.procedures export ≡ number)

-- the export of a number among the program's procedures, with its number among all, where there is one
abbrev pub IsExportFound : CodeProgram.Program → (export : ℕ) → Option (ℕ × Bor CodeProcedure.Procedure) → Type 0
IsExportFound program export found =
    MatchOption found (slice_get (exports (program_of program)) export ≡ None)
    (λ f. IsExport (program_of program) export f.0 (procedure_of (table_of program.types) f.1.now))

-- where the trap of a procedure of this number comes from that is run from outside in this store, if it traps
abbrev pub site_in : Program → (number : ℕ) → Procedure → (budget : ℕ) → Store → Option Site
site_in program number p budget store =
    site_of (of_procedure number (Sited.meaning_of_all by_position (Sited.calls by_position program (most_activations - 1)) 0 p.body budget store))

-- the same of a procedure of the code's program
abbrev pub site_outside : CodeProgram.Program → (number : ℕ) → CodeProcedure.Procedure → (budget : ℕ) → Store → Option Site
site_outside program number procedure budget store =
    site_in (program_of program) number (procedure_of (table_of program.types) procedure) budget store
