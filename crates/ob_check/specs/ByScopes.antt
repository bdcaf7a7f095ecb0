-- What declarations come to, by the scopes that the code has: what stands for its names and types.
use Rattle.std.specs.Prelude.{◌≡◌, ℕ, ◌+◌, List, length, map}
use Rattle.ob_grammar.specs.declared.tree.Declarations.{Declarations}
use Rattle.ob_grammar.specs.declared.tree.Procedure as Written
use Rattle.ob_grammar.specs.Tree
use Rattle.ob_grammar.specs.View.{body_of, declarations_of, heading_of, inner_of, procedure_before}
use Rattle.ob_typing.specs.Declarations.{inner_scope, with_procedure}
use Rattle.ob_typing.specs.ModuleVerdicts.{WithAll, WithProcedures}
use Rattle.ob_typing.specs.ModuleVerdicts as Verdicts
use Rattle.ob_typing.specs.Scopes.{Environment}
use Rattle.ob_typing.specs.Verdict.{Verdict}
use Rattle.ob_checked.specs.declared.program.Parameter.{Parameter}
use Rattle.ob_checked.specs.declared.program.Procedure.{Procedure}
use Rattle.ob_checked.specs.declared.program.Statement.{Statement}
use Rattle.ob_checked.specs.declared.program.Variable.{Variable}
use Rattle.ob_checked.specs.View.{parameter_of, procedure_of, statements_in, variable_of}
use Rattle.ob_scopes.specs.declared.scopes.Scopes.{Scopes}
use Rattle.ob_scopes.specs.Names.{env_of, types_in}
use Rattle.ob_rules.specs.declared.declarations.Room.{Room}
use Rattle.ob_rules.specs.Checking.{and_then}
use Rattle.ob_rules.specs.CheckingVariables.{room_of}
use Rattle.ob_check.specs.CheckingProcedures.{Behind, around, behind_heading, behind_procedures}

abbrev pub with_procedures : Scopes → List Procedure → WithProcedures
with_procedures scopes ps = record { env = env_of scopes; procedures = map (procedure_of (types_in scopes)) ps }

abbrev pub with_all : Scopes → List Variable → List Procedure → WithAll
with_all scopes vs ps =
    record { env = env_of scopes; variables = map (variable_of (types_in scopes)) vs; procedures = map (procedure_of (types_in scopes)) ps }

-- what stands behind a heading
abbrev pub with_inner : Scopes → List Variable → List Procedure → List Statement → Behind
with_inner scopes vs ps body =
    record { env = env_of scopes; variables = map (variable_of (types_in scopes)) vs; procedures = map (procedure_of (types_in scopes)) ps; body = statements_in body }

-- the verdict on declarations, of which the procedures are numbered from here, and for whose variables there is this room
abbrev pub declaring : Scopes → Declarations → ℕ → Room → Verdict WithAll
declaring scopes tree number room = Verdicts.declarations (declarations_of tree) (env_of scopes) number (room_of room)

-- the verdict on what stands behind the heading of procedure n with so many parameters
abbrev pub checking_inner : Scopes → Written.Procedure → (n count : ℕ) → Verdict Behind
checking_inner scopes tree n count = behind_heading (env_of scopes) n count (inner_of tree) (body_of tree)

-- the names where a procedure is declared in the scope around the innermost one, which is that of its parameters
abbrev pub declared_around : Scopes → ℕ → Written.Procedure → List Parameter → Environment
declared_around scopes number tree ps =
    inner_scope (env_of scopes) (with_procedure (around (env_of scopes)) number (heading_of tree) (map (parameter_of (types_in scopes)) ps))

-- the verdict on procedures behind those so far, which are numbered from `first`, and among which there are so many exports
abbrev pub further_procedures : Scopes → ℕ → List Procedure → ℕ → Tree.Procedures → Verdict WithProcedures
further_procedures scopes first ps exported rest = Verdicts.procedures rest (env_of scopes) (first + length ps) exported

-- and with those so far in front
abbrev pub procedures_behind : Scopes → ℕ → List Procedure → ℕ → Tree.Procedures → Verdict WithProcedures
procedures_behind scopes first ps exported rest = and_then (further_procedures scopes first ps exported rest) (behind_procedures (types_in scopes) ps)

-- A procedure with those within it, behind the old ones and so many exports; it leaves the new ones and the exports behind it. Whatever
-- procedures follow (`rest`), the verdict on all is the verdict on these, behind what it has left.
abbrev pub DeclaresProcedure : Written.Procedure → ℕ → Scopes → List Procedure → ℕ → Scopes → List Procedure → ℕ → Type 0
DeclaresProcedure tree first before old exported after new exports =
    (rest : Tree.Procedures)
    → procedures_behind before first old exported (procedure_before tree rest) ≡ procedures_behind after first new exports rest
