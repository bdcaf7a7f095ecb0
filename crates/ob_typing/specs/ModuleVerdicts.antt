-- The verdicts on declarations and on a module.
use Rattle.std.specs.Prelude.{ℕ, suc, ◌+◌, ◌-◌, List, [], ◌∷◌, ◌++◌, length, not, ◌||◌}
use Rattle.ob_grammar.specs.Tree
use Rattle.ob_grammar.specs.Tree.{ConstDecl, TypeDecl, VarDecl, Section, Declarations, Procedures, Module}
use Rattle.ob_typing.specs.declared.rule.Rule.TheVariants.{DeclaredTwice, TypesDiffer, PassesLimit, BadExport}
use Rattle.ob_typing.specs.Program
use Rattle.ob_typing.specs.Program.{Parameter, Variable, Procedure}
use Rattle.ob_typing.specs.Scopes.{Constant, TypeName, Environment, no_names, is_declared, declared, opening_names, is_simple, words}
use Rattle.ob_typing.specs.Types.{second}
use Rattle.ob_typing.specs.Statements.{listed}
use Rattle.ob_typing.specs.Declarations.{declared_by, Room, module_room, frame_room, first_beyond, with_variables, room_behind, variables_of, with_parameters, parameters_of, most_parameters, all_simple, exports_behind, inner_scope, with_procedure}
use Rattle.ob_typing.specs.DeclarationFaults.{parameter_broken, heading_broken}
use Rattle.ob_typing.specs.TypeFaults.{type_place}
use Rattle.ob_typing.specs.Verdict.{Verdict, Right, ◌>>=◌, test, unless, unless_name, unless_broken}
use Rattle.ob_typing.specs.TypeVerdicts.{constant, denoted, formal}
use Rattle.ob_typing.specs.StatementVerdicts.{body_checked}

-- names declared, with the variables, parameters or procedures among them
pub record WithVariables : Type 0 where
  pub env : Environment
  pub variables : List Variable

pub record WithParameters : Type 0 where
  pub env : Environment
  pub parameters : List Parameter

pub record WithProcedures : Type 0 where
  pub env : Environment
  pub procedures : List Procedure

pub record WithAll : Type 0 where
  pub env : Environment
  pub variables : List Variable
  pub procedures : List Procedure

-- a new name, and then its value, in which it isn't visible
abbrev pub constants : List ConstDecl → Environment → Verdict Environment
constants [] env = Right env
constants (x ∷ xs) env = do
  new ← test (not (is_declared env x.name.text)) DeclaredTwice x.name.place
  s ← constant env x.value
  constants xs (declared env x.name.text (Constant s))

-- a new name, and then its type, in which it isn't visible
abbrev pub types : List TypeDecl → Environment → Verdict Environment
types [] env = Right env
types (x ∷ xs) env = do
  new ← test (not (is_declared env x.name.text)) DeclaredTwice x.name.place
  t ← denoted env x.definition
  types xs (declared env x.name.text (TypeName t))

-- new names, their type, and then the room for them
abbrev pub variables : List VarDecl → Environment → Room → Verdict WithVariables
variables [] env room = Right (record { env = env; variables = [] })
variables (x ∷ xs) env room = do
  new ← unless_name (second (is_declared env) x.names) DeclaredTwice
  t ← denoted env x.of_type
  small ← unless_name (first_beyond room (words t) x.names) PassesLimit
  rest ← variables xs (with_variables env room t x.names) (room_behind room t x.names)
  Right (record { env = rest.env; variables = variables_of t x.names ++ rest.variables })

-- new names for which there is room, their type, a name, and then that value parameters are not structured
abbrev pub parameters : List Section → Environment → ℕ → Verdict WithParameters
parameters [] env count = Right (record { env = env; parameters = [] })
parameters (x ∷ xs) env count = do
  new ← unless_broken (parameter_broken (is_declared env) (most_parameters - count) x.names)
  t ← formal env x.of_type
  simple ← test (x.is_var || is_simple t) TypesDiffer (type_place x.of_type)
  rest ← parameters xs (with_parameters env count t x.names) (count + length x.names)
  Right (record { env = rest.env; parameters = parameters_of x.is_var t x.names ++ rest.parameters })

abbrev mutual
  -- a name, its parameters, that an export has no structured one, what is declared within, and the body, before the next procedure
  pub procedures : Procedures → Environment → ℕ → ℕ → Verdict WithProcedures
  procedures Tree.no_procedure env n exported = Right (record { env = env; procedures = [] })
  procedures (Tree.procedure heading inner body end_name rest) env n exported = do
    new ← unless (heading_broken env exported heading) heading.name.place
    ps ← parameters (listed heading.parameters) (no_names ∷ env) 0
    simple ← test (not heading.is_exported || all_simple ps.parameters) BadExport heading.name.place
    ds ← declarations inner (inner_scope ps.env (with_procedure env n heading ps.parameters)) (suc n) (frame_room (length ps.parameters))
    ss ← body_checked ds.env body
    others ← procedures rest (with_procedure env n heading ps.parameters) (suc n + length ds.procedures) (exports_behind exported heading)
    Right (record { env = others.env; procedures = record { name = heading.name.text; is_exported = heading.is_exported; parameters = ps.parameters; variables = ds.variables; body = ss } ∷ ds.procedures ++ others.procedures })

  -- in the order of the text
  pub declarations : Declarations → Environment → ℕ → Room → Verdict WithAll
  declarations (Tree.Declared cs ts vs ps) env n room = do
    env1 ← constants (declared_by cs) env
    env2 ← types (declared_by ts) env1
    us ← variables (declared_by vs) env2 room
    qs ← procedures ps us.env n 0
    Right (record { env = qs.env; variables = us.variables; procedures = qs.procedures })

-- the declarations and then the body
abbrev pub checked : Module → Verdict Program.Program
checked m = do
  ds ← declarations m.declarations opening_names 0 module_room
  ss ← body_checked ds.env m.body
  Right (record { variables = ds.variables; procedures = ds.procedures; body = ss })
