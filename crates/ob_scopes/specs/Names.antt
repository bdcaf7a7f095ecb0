-- The names that the scopes of the program declare, and what one of them stands for where it is used.
use Rattle.std.specs.Prelude.{ℕ, true, List, [], ◌∷◌, map}
use Rattle.std.specs.Prelude as Prelude
use Rattle.ob_typing.specs.Program.{Name}
use Rattle.ob_typing.specs.Scopes as Declared
use Rattle.ob_typing.specs.Scopes.{Environment}
use Rattle.ob_checked.specs.Types.{Entry, type_in, is_below}
use Rattle.ob_checked.specs.View.{table_of, owner_of, parameter_of}
use Rattle.ob_scopes.specs.declared.scopes.Scopes.{Scopes}
use Rattle.ob_scopes.specs.declared.scopes.Meant.{Meant}
use Rattle.ob_scopes.specs.declared.scopes.Meant.TheVariants.{Nothing, Constant, TypeName, Variable, FarVariable, Procedure}
use Rattle.ob_scopes.specs.declared.scopes.Value.{Value}
use Rattle.ob_scopes.specs.declared.scopes.Value.TheVariants as Values
use Rattle.ob_scopes.specs.Objects.{scope_of, env_behind, known_parameters}

-- the types of the program so far
abbrev pub types_in : Scopes → List Entry
types_in s = table_of s.types

abbrev pub env_of : Scopes → Environment
env_of s = scope_of (types_in s) s.own ∷ env_behind (types_in s) s.around.items []

abbrev pub meant_of : List Entry → Name → Meant → Declared.Meant
meant_of types name Nothing = Declared.Nothing
meant_of types name (Constant value) = Declared.AConstant value
meant_of types name (TypeName t) = Declared.AType (type_in types t)
meant_of types name (Variable owner position t) =
    Declared.AVariable (record { owner = owner_of owner; position = position; name = name }) (type_in types t)
meant_of types name FarVariable = Declared.FarVariable
meant_of types name (Procedure number parameters) = Declared.AProcedure number (map (parameter_of types) parameters.now)

-- its types are in a table of so many entries
abbrev pub known_meant : ℕ → Meant → Prelude.Bool
known_meant n (TypeName t) = is_below n t
known_meant n (Variable owner position t) = is_below n t
known_meant n (Procedure number parameters) = known_parameters n parameters.now
known_meant n _ = true

-- a value that a name stands for
abbrev pub value_of : List Entry → Name → Value → Declared.Meant
value_of types name (Values.Constant value) = Declared.AConstant value
value_of types name (Values.Variable owner position t) =
    Declared.AVariable (record { owner = owner_of owner; position = position; name = name }) (type_in types t)
