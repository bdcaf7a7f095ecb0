-- The verdicts on constants and types.
use Rattle.std.specs.Prelude.{ℕ, ℤ, Option, Some, None}
use Rattle.ob_grammar.specs.Tree
use Rattle.ob_grammar.specs.Tree.{Expr, TypeExpr, FieldLists}
use Rattle.ob_interface.specs.declared.scalar.Scalar.{Scalar}
use Rattle.ob_interface.specs.declared.scalar.Scalar.TheVariants.{Int, Bool}
use Rattle.ob_typing.specs.declared.rule.Rule.TheVariants.{DeclaredTwice, WrongKind, TypesDiffer, BadLength, PassesLimit}
use Rattle.ob_typing.specs.Program
use Rattle.ob_typing.specs.Program.{DataType, Fields}
use Rattle.ob_typing.specs.Scopes.{Environment, Meant, AType, meant, is_small}
use Rattle.ob_typing.specs.Expressions.{InConstant}
use Rattle.ob_typing.specs.ExpressionFaults.{broken, first_place}
use Rattle.ob_typing.specs.Types.{Taken, none_taken, and_all_taken, second, array_length, with_fields}
use Rattle.ob_typing.specs.TypeFaults.{type_broken}
use Rattle.ob_typing.specs.Verdict.{Verdict, Right, Wrong, ◌>>=◌, need, or_wrong, test, unless, unless_name}
use Rattle.ob_typing.specs.ExpressionVerdicts.{expression}

-- the type that a name stands for
abbrev pub type_named : Meant → Option DataType
type_named (AType t) = Some t
type_named _ = None

-- the number of a length, an INTEGER, at a place
abbrev pub number_at : ℕ → Scalar → Verdict ℤ
number_at place (Int z) = Right z
number_at place (Bool b) = Wrong (broken TypesDiffer place)

module _ (env : Environment) where
  -- a constant expression, by its value
  abbrev pub constant : Expr → Verdict Scalar
  constant e = do
    x ← expression env e InConstant
    need x.value

  abbrev mutual
    -- the parts of a type before the limits of the whole
    pub denoted : TypeExpr → Verdict DataType
    denoted (Tree.NamedType name) = do
      known ← unless (type_broken (meant env name.text)) name.place
      need (type_named (meant env name.text))
    -- the length, that it is an INTEGER, of 1 to 4096, then the elements
    denoted (Tree.Array place e of_type) = do
      s ← constant e
      z ← number_at (first_place e) s
      length ← or_wrong (array_length z) BadLength (first_place e)
      element ← denoted of_type
      small ← test (is_small (Program.Array place length element)) PassesLimit place
      Right (Program.Array place length element)
    denoted (Tree.Record place lists) = do
      fields ← denoted_fields lists none_taken
      small ← test (is_small (Program.Record place fields)) PassesLimit place
      Right (Program.Record place fields)

    -- behind names that are taken: the names of a list, then their type
    pub denoted_fields : FieldLists → Taken → Verdict Fields
    denoted_fields Tree.no_list taken = Right Program.no_field
    denoted_fields (Tree.empty_list rest) taken = denoted_fields rest taken
    denoted_fields (Tree.fields names e rest) taken = do
      new ← unless_name (second taken names) DeclaredTwice
      t ← denoted e
      fields ← denoted_fields rest (and_all_taken taken names)
      Right (with_fields names t fields)

  -- a formal type is a name; the parts of any other are tested first, and its limits never
  abbrev pub formal : TypeExpr → Verdict DataType
  formal (Tree.NamedType name) = denoted (Tree.NamedType name)
  formal (Tree.Array place e of_type) = do
    s ← constant e
    z ← number_at (first_place e) s
    length ← or_wrong (array_length z) BadLength (first_place e)
    element ← denoted of_type
    Wrong (broken WrongKind place)
  formal (Tree.Record place lists) = do
    fields ← denoted_fields lists none_taken
    Wrong (broken WrongKind place)
