-- What the parts of a type come to, and what is left to test where parts are right.
use Rattle.std.specs.Prelude.{ℕ, List, [], ◌∷◌, map, String, string_bytes}
use Rattle.std.specs.declared.alloc.Global.{Global}
use Rattle.ob_grammar.specs.declared.tree.FieldList.{FieldList}
use Rattle.ob_grammar.specs.declared.tree.FieldList.TheVariants.{Empty, Fields}
use Rattle.ob_grammar.specs.Tree
use Rattle.ob_grammar.specs.View.{name_of, type_of}
use Rattle.ob_interface.specs.declared.scalar.Scalar.{Scalar}
use Rattle.ob_typing.specs.declared.rule.Rule.TheVariants.{BadLength, PassesLimit}
use Rattle.ob_typing.specs.Program as Programs
use Rattle.ob_typing.specs.Scopes.{is_small}
use Rattle.ob_typing.specs.Types.{array_length}
use Rattle.ob_typing.specs.Verdict.{Verdict, Right, ◌>>=◌, or_wrong, test}
use Rattle.ob_typing.specs.TypeVerdicts.{number_at}
use Rattle.ob_checked.specs.declared.types.DataType.{DataType}
use Rattle.ob_checked.specs.Types.{Entry, type_by, types_of}

-- the length of an array by the value of its expression, which begins at this place
abbrev pub length_at : ℕ → Scalar → Verdict ℕ
length_at place s = do
  z ← number_at place s
  or_wrong (array_length z) BadLength place

-- a type that begins at this place, where it keeps the limits
abbrev pub small_at : ℕ → Programs.DataType → Verdict Programs.DataType
small_at place t = do
  small ← test (is_small t) PassesLimit place
  Right t

-- a field list in front of others
abbrev pub list_before : FieldList → Tree.FieldLists → Tree.FieldLists
list_before Empty rest = Tree.empty_list rest
list_before (Fields names t) rest = Tree.fields (map name_of names.items) (type_of t) rest

-- fields in front of others
abbrev pub fields_before : List Programs.DataType → List (String Global × DataType) → Programs.Fields → Programs.Fields
fields_before ts [] rest = rest
fields_before ts (f ∷ fs) rest = Programs.field (string_bytes f.0) (type_by ts f.1) (fields_before ts fs rest)

-- the fields so far, in front of those that are left
abbrev pub behind_fields : List Entry → List (String Global × DataType) → Programs.Fields → Verdict Programs.Fields
behind_fields types fs rest = Right (fields_before (types_of types) fs rest)
