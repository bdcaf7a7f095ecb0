-- What the parts of procedures come to.
use Rattle.std.specs.Prelude.{ℕ, suc, true, ◌&&◌, ◌||◌, not, List, [], ◌∷◌, ◌++◌, map, Option}
use Rattle.std.specs.Prelude as Prelude
use Rattle.ob_grammar.specs.Tree as Tree
use Rattle.ob_grammar.specs.Tree.{Heading, Stmts}
use Rattle.ob_typing.specs.declared.rule.Rule.TheVariants.{BadExport}
use Rattle.ob_typing.specs.Program.{Statements, Variable}
use Rattle.ob_typing.specs.Program as Programs
use Rattle.ob_typing.specs.Scopes.{Environment, no_names}
use Rattle.ob_typing.specs.Statements.{listed}
use Rattle.ob_typing.specs.Declarations.{frame_room, all_simple, inner_scope, with_procedure}
use Rattle.ob_typing.specs.Verdict.{Verdict, Right, ◌>>=◌, test}
use Rattle.ob_typing.specs.StatementVerdicts.{body_checked}
use Rattle.ob_typing.specs.ModuleVerdicts.{WithParameters, WithProcedures, parameters, declarations}
use Rattle.ob_checked.specs.declared.program.Procedure.{Procedure}
use Rattle.ob_checked.specs.Types.{Entry}
use Rattle.ob_checked.specs.View.{procedure_of}
use Rattle.ob_scopes.specs.Objects.{known_parameters}
use Rattle.ob_rules.specs.CheckingVariables.{known_variables}

-- the types of procedures are in a table of so many entries
abbrev pub known_procedures : ℕ → List Procedure → Prelude.Bool
known_procedures n [] = true
known_procedures n (p ∷ ps) = known_parameters n p.parameters.items && (known_variables n p.variables.items && known_procedures n ps)

-- the procedures so far, in front of those that are left
abbrev pub behind_procedures : List Entry → List Procedure → WithProcedures → Verdict WithProcedures
behind_procedures types ps rest = Right (record { env = rest.env; procedures = map (procedure_of types) ps ++ rest.procedures })

-- the scopes around the innermost one
abbrev pub around : Environment → Environment
around [] = []
around (scope ∷ outer) = outer

-- a heading whose name was tested: its parameters, and the names under which the rest of the procedure stands
abbrev pub headed : Environment → ℕ → Heading → Verdict WithParameters
headed env n heading = do
  ps ← parameters (listed heading.parameters) (no_names ∷ env) 0
  simple ← test (not heading.is_exported || all_simple ps.parameters) BadExport heading.name.place
  Right (record { env = inner_scope ps.env (with_procedure env n heading ps.parameters); parameters = ps.parameters })

-- what stands behind a heading
pub record Behind : Type 0 where
  pub env : Environment
  pub variables : List Programs.Variable
  pub procedures : List Programs.Procedure
  pub body : Statements

-- the declarations and the body of procedure n with so many parameters, under the names behind its heading
abbrev pub behind_heading : Environment → (n count : ℕ) → Tree.Declarations → Option Stmts → Verdict Behind
behind_heading env n count inner body = do
  ds ← declarations inner env (suc n) (frame_room count)
  ss ← body_checked ds.env body
  Right (record { env = ds.env; variables = ds.variables; procedures = ds.procedures; body = ss })
