-- Well formed types: judgements that lead from a type's text, under declared names, to a type.
use Rattle.std.specs.Prelude.{◌≡◌, ℕ, ℤ, pos, negsuc, true, false, ◌&&◌, nat_le, bytes_eq, if◌then◌else◌, List, [], ◌∷◌, Option, Some, None}
use Rattle.std.specs.Prelude as Prelude
use Rattle.ob_grammar.specs.Tree
use Rattle.ob_grammar.specs.Tree.{TypeExpr, FieldLists, Expr}
use Rattle.ob_interface.specs.declared.scalar.Scalar.TheVariants.{Int}
use Rattle.ob_typing.specs.Program
use Rattle.ob_typing.specs.Program.{Name, DataType, Fields}
use Rattle.ob_typing.specs.Scopes.{Environment, AType, meant, is_small}
use Rattle.ob_typing.specs.Expressions.{HasConstant}

-- names that are taken, in a scope or in a record
abbrev pub Taken : Type 0
Taken = Name → Prelude.Bool

abbrev pub none_taken : Taken
none_taken name = false

-- with one name more
abbrev pub and_taken : Taken → Name → Taken
and_taken taken name other = if bytes_eq name other then true else taken other

-- with more names
abbrev pub and_all_taken : Taken → List Tree.Name → Taken
and_all_taken taken [] = taken
and_all_taken taken (name ∷ names) = and_all_taken (and_taken taken name.text) names

-- the first of the names that is taken, or stands before in the list
abbrev pub second : Taken → List Tree.Name → Option Tree.Name
second taken [] = None
second taken (name ∷ names) =
    if taken name.text then Some name else second (and_taken taken name.text) names

-- the length of an array: 1 to 4096
abbrev pub array_length : ℤ → Option ℕ
array_length (pos n) = if nat_le 1 n && nat_le n 4096 then Some n else None
array_length (negsuc n) = None

-- fields of one type in front of others
abbrev pub with_fields : List Tree.Name → DataType → Fields → Fields
with_fields [] t rest = rest
with_fields (name ∷ names) t rest = Program.field name.text t (with_fields names t rest)

module _ (env : Environment) where
  mutual
    -- this type expression is this type: one that a name stands for, or one that is built and keeps the limits
    pub data Denotes : TypeExpr → DataType → Type 0 where
      called : {name : Tree.Name} {t : DataType} →
          meant env name.text ≡ AType t → Denotes (Tree.NamedType name) t
      built : {e : TypeExpr} {t : DataType} → Builds e t → is_small t ≡ true → Denotes e t

    -- this ARRAY or RECORD builds this type, however large it is
    pub data Builds : TypeExpr → DataType → Type 0 where
      array : {place length : ℕ} {z : ℤ} {e : Expr} {of_type : TypeExpr} {element : DataType} →
          HasConstant env e (Int z) → array_length z ≡ Some length → Denotes of_type element →
          Builds (Tree.Array place e of_type) (Program.Array place length element)
      record' : {place : ℕ} {lists : FieldLists} {fields : Fields} →
          DenotesFields none_taken lists fields → Builds (Tree.Record place lists) (Program.Record place fields)

    -- behind the names of other fields: these lists are these fields, and no name stands twice
    pub data DenotesFields : Taken → FieldLists → Fields → Type 0 where
      none : {taken : Taken} → DenotesFields taken Tree.no_list Program.no_field
      empty : {taken : Taken} {rest : FieldLists} {fields : Fields} →
          DenotesFields taken rest fields → DenotesFields taken (Tree.empty_list rest) fields
      of_type : {taken : Taken} {names : List Tree.Name} {e : TypeExpr} {t : DataType} {rest : FieldLists} {fields : Fields} →
          second taken names ≡ None → Denotes e t → DenotesFields (and_all_taken taken names) rest fields →
          DenotesFields taken (Tree.fields names e rest) (with_fields names t fields)
