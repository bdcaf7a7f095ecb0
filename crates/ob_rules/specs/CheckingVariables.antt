-- What the parts of declarations come to.
use Rattle.std.specs.Prelude.{ℕ, true, ◌&&◌, List, [], ◌∷◌, ◌++◌, map}
use Rattle.std.specs.Prelude as Prelude
use Rattle.ob_typing.specs.Declarations as Declarations
use Rattle.ob_typing.specs.Verdict.{Verdict, Right}
use Rattle.ob_typing.specs.ModuleVerdicts.{WithVariables, WithParameters}
use Rattle.ob_checked.specs.declared.program.Parameter.{Parameter}
use Rattle.ob_checked.specs.declared.program.Variable.{Variable}
use Rattle.ob_checked.specs.Types.{Entry, is_below}
use Rattle.ob_checked.specs.View.{variable_of, parameter_of}
use Rattle.ob_rules.specs.declared.declarations.Room.{Room}

abbrev pub room_of : Room → Declarations.Room
room_of room = record { names = room.names; taken = room.taken; limit = room.limit }

-- the types of variables are in a table of so many entries
abbrev pub known_variables : ℕ → List Variable → Prelude.Bool
known_variables n [] = true
known_variables n (v ∷ vs) = is_below n v.data_type && known_variables n vs

-- the variables so far, in front of those that are left
abbrev pub behind_variables : List Entry → List Variable → WithVariables → Verdict WithVariables
behind_variables types vs rest = Right (record { env = rest.env; variables = map (variable_of types) vs ++ rest.variables })

-- the parameters so far, in front of those that are left
abbrev pub behind_parameters : List Entry → List Parameter → WithParameters → Verdict WithParameters
behind_parameters types ps rest = Right (record { env = rest.env; parameters = map (parameter_of types) ps ++ rest.parameters })
