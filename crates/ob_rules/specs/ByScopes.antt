-- The verdicts on parts of the written tree, by the scopes that the code has: what stands for its names and types.
use Rattle.std.specs.Prelude.{◌≡◌, ℕ, true, List, ◌++◌, length, map}
use Rattle.std.specs.Prelude as Prelude
use Rattle.ob_grammar.specs.declared.tree.Designator.{Designator}
use Rattle.ob_grammar.specs.declared.tree.Expr.{Expr}
use Rattle.ob_grammar.specs.declared.tree.Name.{Name}
use Rattle.ob_grammar.specs.Tree
use Rattle.ob_grammar.specs.View.{expr_of, name_of, selectors_in}
use Rattle.ob_typing.specs.Program as Programs
use Rattle.ob_typing.specs.Declarations as Declarations
use Rattle.ob_typing.specs.Scopes.{Environment}
use Rattle.ob_typing.specs.Statements as Typing
use Rattle.ob_typing.specs.Verdict.{Verdict, Right}
use Rattle.ob_typing.specs.ExpressionVerdicts as Expressions
use Rattle.ob_typing.specs.StatementVerdicts as Statements
use Rattle.ob_typing.specs.ModuleVerdicts as Modules
use Rattle.ob_typing.specs.ModuleVerdicts.{WithVariables, WithParameters}
use Rattle.ob_checked.specs.declared.fields.Fields.{Fields}
use Rattle.ob_checked.specs.declared.program.Branch.{Branch}
use Rattle.ob_checked.specs.declared.program.Parameter.{Parameter}
use Rattle.ob_checked.specs.declared.program.Variable.{Variable}
use Rattle.ob_checked.specs.declared.types.DataType.{DataType}
use Rattle.ob_checked.specs.declared.types.Types.{Types}
use Rattle.ob_checked.specs.Types.{fields_by, fields_in, type_in, types_of}
use Rattle.ob_checked.specs.View.{branches_in, parameter_of, table_of, variable_of}
use Rattle.ob_scopes.specs.declared.constants.Usage.{Usage}
use Rattle.ob_scopes.specs.declared.scopes.Scopes.{Scopes}
use Rattle.ob_scopes.specs.declared.scopes.Value.{Value}
use Rattle.ob_scopes.specs.Names.{env_of, types_in, value_of}
use Rattle.ob_scopes.specs.Objects.{known_parameters}
use Rattle.ob_scopes.specs.Usages.{use_of}
use Rattle.ob_rules.specs.declared.declarations.Room.{Room}
use Rattle.ob_rules.specs.declared.expressions.Path.{Path}
use Rattle.ob_rules.specs.Checking.{and_then, path_of}
use Rattle.ob_rules.specs.CheckingVariables.{behind_parameters, behind_variables, known_variables, room_of}

-- where selectors lead, from a type
abbrev pub selecting_by : Scopes → Tree.Selectors → Usage → DataType → Verdict Expressions.Path
selecting_by scopes selectors usage whole = Expressions.selecting (env_of scopes) selectors (use_of usage) (type_in (types_in scopes) whole)

-- the value of a name and what its selectors lead to
abbrev pub named_value_by : Types → Name → Value → Usage → Path → Verdict Expressions.Typed
named_value_by types name value usage path =
    Expressions.named_value (use_of usage) name.place (value_of (table_of types) (name_of name).text value) (path_of (table_of types) path)

-- the variable, or the part of one, that a name with its selectors stands for
abbrev pub designated_by : Scopes → Designator → Verdict Statements.Designation
designated_by scopes d = Statements.designated (env_of scopes) (name_of d.name) (selectors_in d.selectors.items)

-- the actual of a VAR parameter
abbrev pub place_actual_by : Scopes → Parameter → Expr → Verdict Programs.Actual
place_actual_by scopes parameter written =
    Statements.place_actual (env_of scopes) (parameter_of (types_in scopes) parameter) (expr_of written) (Typing.bare (env_of scopes) (expr_of written))

-- the actuals of a call, one for each parameter
abbrev pub actuals_by : Scopes → List Parameter → List Expr → Verdict (List Programs.Actual)
actuals_by scopes parameters written = Statements.actuals (env_of scopes) (map (parameter_of (types_in scopes)) parameters) (map expr_of written)

-- an assignment
abbrev pub assigned_by : Scopes → Designator → Expr → Verdict Programs.Statement
assigned_by scopes target value = Statements.statement (env_of scopes) (Tree.Assign (name_of target.name) (selectors_in target.selectors.items) (expr_of value))

-- branches in front of what follows them
abbrev pub branches_before : List Branch → Verdict Programs.Branches → Verdict Programs.Branches
branches_before branches last = and_then last (λ following. Right (branches_in branches following))

-- variables, as they are declared
abbrev pub variables_by : Scopes → List Variable → List Programs.Variable
variables_by scopes variables = map (variable_of (types_in scopes)) variables

-- the variables of names that have one type
abbrev pub named_variables : Scopes → DataType → List Name → List Programs.Variable
named_variables scopes data_type names = Declarations.variables_of (type_in (types_in scopes) data_type) (map name_of names)

-- parameters, as they are declared
abbrev pub parameters_by : Scopes → List Parameter → List Programs.Parameter
parameters_by scopes parameters = map (parameter_of (types_in scopes)) parameters

-- the parameters of names that have one type
abbrev pub named_parameters : Scopes → Prelude.Bool → DataType → List Name → List Programs.Parameter
named_parameters scopes is_var data_type names = Declarations.parameters_of is_var (type_in (types_in scopes) data_type) (map name_of names)

-- fields, as they are declared
abbrev pub declared_fields : Scopes → Fields → Programs.Fields
declared_fields scopes fields = fields_by (types_of (types_in scopes)) (fields_in fields)

-- the names that scopes declare, with the variables among them
abbrev pub with_variables : Scopes → List Variable → WithVariables
with_variables scopes variables = record { env = env_of scopes; variables = variables_by scopes variables }

-- the names that scopes declare, with the parameters among them
abbrev pub with_parameters : Scopes → List Parameter → WithParameters
with_parameters scopes parameters = record { env = env_of scopes; parameters = parameters_by scopes parameters }

-- the verdict on declarations of variables, for which there is this room
abbrev pub declaring_variables : Scopes → Room → List Tree.VarDecl → Verdict WithVariables
declaring_variables scopes room declarations = Modules.variables declarations (env_of scopes) (room_of room)

-- and with the variables so far in front
abbrev pub variables_behind : Scopes → Room → List Variable → List Tree.VarDecl → Verdict WithVariables
variables_behind scopes room variables rest = and_then (declaring_variables scopes room rest) (behind_variables (types_in scopes) variables)

-- the verdict on sections of parameters, behind so many parameters
abbrev pub declaring_parameters : Scopes → ℕ → List Tree.Section → Verdict WithParameters
declaring_parameters scopes count sections = Modules.parameters sections (env_of scopes) count

-- and with the parameters so far in front
abbrev pub parameters_behind : Scopes → List Parameter → List Tree.Section → Verdict WithParameters
parameters_behind scopes parameters rest = and_then (declaring_parameters scopes (length parameters) rest) (behind_parameters (types_in scopes) parameters)

-- the names that scopes declare, with variables of one type besides, for which there is this room
abbrev pub names_with_variables : Scopes → Room → DataType → List Name → Environment
names_with_variables scopes room data_type names =
    Declarations.with_variables (env_of scopes) (room_of room) (type_in (types_in scopes) data_type) (map name_of names)

-- the names that scopes declare, with parameters of one type besides, behind so many others
abbrev pub names_with_parameters : Scopes → ℕ → DataType → List Name → Environment
names_with_parameters scopes count data_type names =
    Declarations.with_parameters (env_of scopes) count (type_in (types_in scopes) data_type) (map name_of names)

-- parameters, as they are declared, and behind them those of names that have one type
abbrev pub parameters_and_named : Scopes → List Parameter → Prelude.Bool → DataType → List Name → List Programs.Parameter
parameters_and_named scopes parameters is_var data_type names = parameters_by scopes parameters ++ named_parameters scopes is_var data_type names

-- where the types of the old variables are in the table of types, so are those of the new ones
abbrev pub VariablesStayKnown : Scopes → List Variable → List Variable → Type 0
VariablesStayKnown scopes old new = known_variables (length (types_in scopes)) old ≡ true → known_variables (length (types_in scopes)) new ≡ true

-- and so for parameters
abbrev pub ParametersStayKnown : Scopes → List Parameter → List Parameter → Type 0
ParametersStayKnown scopes old new = known_parameters (length (types_in scopes)) old ≡ true → known_parameters (length (types_in scopes)) new ≡ true
