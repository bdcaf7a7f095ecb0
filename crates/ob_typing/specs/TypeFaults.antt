-- The rule that a type breaks first.
use Rattle.std.specs.Prelude.{◌≡◌, ℕ, ℤ, true, false, List, Option, Some, None}
use Rattle.std.specs.Prelude as Prelude
use Rattle.ob_grammar.specs.Tree
use Rattle.ob_grammar.specs.Tree.{TypeExpr, FieldLists, Expr}
use Rattle.ob_interface.specs.declared.scalar.Scalar.TheVariants.{Int, Bool}
use Rattle.ob_typing.specs.declared.rule.Rule.{Rule}
use Rattle.ob_typing.specs.declared.rule.Rule.TheVariants.{UnknownName, DeclaredTwice, WrongKind, TypesDiffer, BadLength, PassesLimit}
use Rattle.ob_typing.specs.declared.rule.BrokenRule.{BrokenRule}
use Rattle.ob_typing.specs.Program.{DataType}
use Rattle.ob_typing.specs.Scopes.{Environment, Meant, Nothing, AType, meant, is_small}
use Rattle.ob_typing.specs.Expressions.{InConstant, HasConstant}
use Rattle.ob_typing.specs.Types.{Taken, none_taken, and_all_taken, second, array_length, Denotes, Builds}
use Rattle.ob_typing.specs.ExpressionFaults.{broken, first_place, ExpressionFails}

-- where a type begins
abbrev pub type_place : TypeExpr → ℕ
type_place (Tree.NamedType name) = name.place
type_place (Tree.Array place e t) = place
type_place (Tree.Record place lists) = place

-- the rule that a name breaks where a type is needed
abbrev pub type_broken : Meant → Option Rule
type_broken Nothing = Some UnknownName
type_broken (AType t) = None
type_broken _ = Some WrongKind

module _ (env : Environment) where
  mutual
    pub data TypeFails : TypeExpr → BrokenRule → Type 0 where
      name : {name : Tree.Name} {rule : Rule} →
          type_broken (meant env name.text) ≡ Some rule → TypeFails (Tree.NamedType name) (broken rule name.place)
      parts : {e : TypeExpr} {fault : BrokenRule} → PartsFail e fault → TypeFails e fault
      -- a type that passes a limit, at the type
      large : {e : TypeExpr} {t : DataType} →
          Builds env e t → is_small t ≡ false → TypeFails e (broken PassesLimit (type_place e))

    -- the rule that is broken first within an ARRAY or a RECORD
    pub data PartsFail : TypeExpr → BrokenRule → Type 0 where
      within_length : {place : ℕ} {e : Expr} {t : TypeExpr} {fault : BrokenRule} →
          ExpressionFails env InConstant e fault → PartsFail (Tree.Array place e t) fault
      -- a length that is no INTEGER, or outside 1 to 4096, at its first byte
      no_number : {place : ℕ} {e : Expr} {t : TypeExpr} {b : Prelude.Bool} →
          HasConstant env e (Bool b) → PartsFail (Tree.Array place e t) (broken TypesDiffer (first_place e))
      length : {place : ℕ} {z : ℤ} {e : Expr} {t : TypeExpr} →
          HasConstant env e (Int z) → array_length z ≡ None → PartsFail (Tree.Array place e t) (broken BadLength (first_place e))
      element : {place length : ℕ} {z : ℤ} {e : Expr} {t : TypeExpr} {fault : BrokenRule} →
          HasConstant env e (Int z) → array_length z ≡ Some length → TypeFails t fault → PartsFail (Tree.Array place e t) fault
      within_record : {place : ℕ} {lists : FieldLists} {fault : BrokenRule} →
          FieldsFail none_taken lists fault → PartsFail (Tree.Record place lists) fault

    -- behind the names of other fields
    pub data FieldsFail : Taken → FieldLists → BrokenRule → Type 0 where
      behind_empty : {taken : Taken} {rest : FieldLists} {fault : BrokenRule} →
          FieldsFail taken rest fault → FieldsFail taken (Tree.empty_list rest) fault
      -- a field twice in one record, before the type is looked at
      twice : {taken : Taken} {names : List Tree.Name} {name : Tree.Name} {e : TypeExpr} {rest : FieldLists} →
          second taken names ≡ Some name → FieldsFail taken (Tree.fields names e rest) (broken DeclaredTwice name.place)
      of_type : {taken : Taken} {names : List Tree.Name} {e : TypeExpr} {rest : FieldLists} {fault : BrokenRule} →
          second taken names ≡ None → TypeFails e fault → FieldsFail taken (Tree.fields names e rest) fault
      others : {taken : Taken} {names : List Tree.Name} {e : TypeExpr} {t : DataType} {rest : FieldLists} {fault : BrokenRule} →
          second taken names ≡ None → Denotes env e t → FieldsFail (and_all_taken taken names) rest fault →
          FieldsFail taken (Tree.fields names e rest) fault

  -- the rule that a formal type breaks first
  pub data FormalTypeFails : TypeExpr → BrokenRule → Type 0 where
    name : {name : Tree.Name} {rule : Rule} →
        type_broken (meant env name.text) ≡ Some rule → FormalTypeFails (Tree.NamedType name) (broken rule name.place)
    parts : {e : TypeExpr} {fault : BrokenRule} → PartsFail e fault → FormalTypeFails e fault
    -- one that is no name, at the type, behind the rules within it; this rule goes before that of its size, which ends there too
    no_name : {e : TypeExpr} {t : DataType} → Builds env e t → FormalTypeFails e (broken WrongKind (type_place e))
