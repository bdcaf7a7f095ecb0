-- What the names of a scope stand for, where numbers stand for the types of a table.
use Rattle.std.specs.Prelude.{◌≡◌, ℕ, true, ◌&&◌, List, [], ◌∷◌, map, option_map, String}
use Rattle.std.specs.Prelude as Prelude
use Rattle.std.specs.declared.alloc.Global.{Global}
use Rattle.std.specs.BTreeMap.{BTreeMap, get_by_text}
use Rattle.ob_typing.specs.Scopes as Declared
use Rattle.ob_typing.specs.Scopes.{Environment, Scope}
use Rattle.ob_checked.specs.declared.program.Parameter.{Parameter}
use Rattle.ob_checked.specs.Types.{Entry, type_in, is_below}
use Rattle.ob_checked.specs.View.{parameter_of}
use Rattle.ob_scopes.specs.declared.scopes.Object.{Object}
use Rattle.ob_scopes.specs.declared.scopes.Object.TheVariants.{Constant, TypeName, ModuleVariable, LocalVariable, Procedure}

abbrev pub object_of : List Entry → Object → Declared.Object
object_of types (Constant value) = Declared.Constant value
object_of types (TypeName t) = Declared.TypeName (type_in types t)
object_of types (ModuleVariable position t) = Declared.ModuleVariable position (type_in types t)
object_of types (LocalVariable level position t) = Declared.LocalVariable level position (type_in types t)
object_of types (Procedure number parameters) = Declared.ProcedureName number (map (parameter_of types) parameters.items)

abbrev pub scope_of : List Entry → BTreeMap (String Global) Object → Scope
scope_of types names name = option_map (object_of types) (get_by_text names name)

-- scopes from the outermost to the innermost, within others
abbrev pub env_behind : List Entry → List (BTreeMap (String Global) Object) → Environment → Environment
env_behind types [] outer = outer
env_behind types (s ∷ ss) outer = env_behind types ss (scope_of types s ∷ outer)

-- the types of an object are in a table of so many entries

abbrev pub known_parameters : ℕ → List Parameter → Prelude.Bool
known_parameters n [] = true
known_parameters n (p ∷ ps) = is_below n p.data_type && known_parameters n ps

abbrev pub known_object : ℕ → Object → Prelude.Bool
known_object n (Constant value) = true
known_object n (TypeName t) = is_below n t
known_object n (ModuleVariable position t) = is_below n t
known_object n (LocalVariable level position t) = is_below n t
known_object n (Procedure number parameters) = known_parameters n parameters.items

abbrev pub known_names : {K : Type 0} → ℕ → List (K × Object) → Prelude.Bool
known_names n [] = true
known_names n (e ∷ es) = known_object n e.1 && known_names n es

abbrev pub known_scopes : {K : Type 0} → ℕ → List (BTreeMap K Object) → Prelude.Bool
known_scopes n [] = true
known_scopes n (s ∷ ss) = known_names n s.entries && known_scopes n ss
