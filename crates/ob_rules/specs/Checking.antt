-- What the parts of the checker answer, and what is left to test where parts are right.
use Rattle.std.specs.Prelude.{◌≡◌, ℕ, string_bytes, List, Option, option_map}
use Rattle.ob_grammar.specs.declared.tree.Operator.{Operator}
use Rattle.ob_grammar.specs.declared.tree.Sign.{Sign}
use Rattle.ob_grammar.specs.declared.tree.Designator.{Designator}
use Rattle.ob_grammar.specs.declared.tree.Selector as Written
use Rattle.ob_grammar.specs.declared.tree.Selector.TheVariants.{Field, Index}
use Rattle.ob_grammar.specs.Tree
use Rattle.ob_grammar.specs.View as Trees
use Rattle.ob_grammar.specs.View.{name_of, expr_of}
use Rattle.ob_interface.specs.declared.scalar.ScalarType.TheVariants.{Integer, Boolean}
use Rattle.ob_interface.specs.declared.scalar.Scalar.{Scalar}
use Rattle.ob_typing.specs.declared.rule.Rule.TheVariants.{UnknownName, WrongKind, TypesDiffer}
use Rattle.ob_typing.specs.Program as Programs
use Rattle.ob_typing.specs.Arithmetic.{type_of, complement, same_scalar_type, compares, relation_of}
use Rattle.ob_typing.specs.Scopes.{fields_of, elements_of, field_from}
use Rattle.ob_typing.specs.Expressions.{Use, known, with_sign, sign_fits, value_signed, value_compared}
use Rattle.ob_typing.specs.Verdict.{Verdict, Right, Wrong, Foreign, ◌>>=◌, need, or_wrong, test, result}
use Rattle.ob_typing.specs.ExpressionVerdicts as Verdicts
use Rattle.ob_typing.specs.ExpressionVerdicts.{sign_place}
use Rattle.ob_checked.specs.declared.program.Selector.{Selector}
use Rattle.ob_checked.specs.declared.program.Selector.TheVariants as Selectors
use Rattle.ob_checked.specs.Types.{Entry, type_in}
use Rattle.ob_checked.specs.View.{expression_of, operations_in, selectors_in}
use Rattle.ob_scopes.specs.declared.fault.CheckFault.{CheckFault}
use Rattle.ob_scopes.specs.declared.fault.CheckFault.TheVariants.{Broken, NoMemory}
use Rattle.ob_rules.specs.declared.expressions.Typed.{Typed}
use Rattle.ob_rules.specs.declared.expressions.Chain.{Chain}
use Rattle.ob_rules.specs.declared.expressions.Path.{Path}

-- a fault is the rule that is broken first, or want of memory; of a tree that no text derives nothing is said
abbrev pub Fails : {A : Type 0} → CheckFault → Verdict A → Type 0
Fails NoMemory verdict = Unit {0}
Fails (Broken fault) (Right a) = ⊥
Fails (Broken fault) (Wrong other) = fault ≡ other
Fails (Broken fault) Foreign = Unit {0}

-- a verdict, and what goes on behind what is right
abbrev pub and_then : {A B : Type 0} → Verdict A → (A → Verdict B) → Verdict B
and_then v go = ◌>>=◌ v go

abbrev pub typed_of : Typed → Verdicts.Typed
typed_of x = record { type = x.data_type; code = expression_of x.code; value = x.value }

abbrev pub chain_of : Chain → Verdicts.Chain
chain_of x = record { operations = operations_in x.operations.items; value = x.value }

abbrev pub path_of : List Entry → Path → Verdicts.Path
path_of types x = record { type = type_in types x.data_type; selectors = selectors_in x.selectors.items }

-- a number or a constant
abbrev pub literal : Use → Scalar → Verdicts.Typed
literal use' v = record { type = type_of v; code = Programs.Literal v; value = known use' v }

-- behind the operand of `~`
abbrev pub complemented : ℕ → Verdicts.Typed → Verdict Verdicts.Typed
complemented place x = do
  boolean ← test (same_scalar_type x.type Boolean) TypesDiffer place
  Right (record { type = Boolean; code = Programs.Complement x.code; value = option_map complement x.value })

-- behind the first term and its sign
abbrev pub signed : Option Sign → Verdicts.Typed → Verdict Verdicts.Typed
signed sign x = do
  fits ← test (sign_fits sign x.type) TypesDiffer (sign_place sign)
  v ← result (value_signed sign x.value) (sign_place sign)
  Right (record { type = x.type; code = with_sign sign x.code; value = v })

-- behind the operands of a chain
abbrev pub chained : Verdicts.Typed → Verdicts.Chain → Verdicts.Typed
chained x y = record { type = x.type; code = Programs.Computed x.code y.operations; value = y.value }

-- behind the operands of a comparison
abbrev pub compared : Operator → ℕ → Verdicts.Typed → Verdicts.Typed → Verdict Verdicts.Typed
compared operator place x y = do
  o ← need (relation_of operator)
  fits ← test (compares o x.type y.type) TypesDiffer place
  Right (record { type = Boolean; code = Programs.Compared o x.code y.code; value = value_compared o x.value y.value })

-- a name with its selectors, as an expression
abbrev pub designator_in : Designator → Tree.Expr
designator_in d = Tree.Named (name_of d.name) (Trees.selectors_in d.selectors.items)

-- a selector in front of others
abbrev pub selector_before : Written.Selector → Tree.Selectors → Tree.Selectors
selector_before (Field place name) rest = Tree.field place (name_of name) rest
selector_before (Index place i) rest = Tree.index place (expr_of i) rest

-- a selector in front of a path
abbrev pub selected_before : Selector → Verdicts.Path → Verdict Verdicts.Path
selected_before (Selectors.Field position name) y = Right (record { type = y.type; selectors = Programs.field_of position (string_bytes name) y.selectors })
selected_before (Selectors.Element length i) y = Right (record { type = y.type; selectors = Programs.element_of length (expression_of i) y.selectors })

-- a field of a type, and what stands behind it
abbrev pub fielded : ℕ → Tree.Name → Programs.DataType → (Programs.DataType → Verdict Verdicts.Path) → Verdict Verdicts.Path
fielded place name s go = do
  fields ← or_wrong (fields_of s) WrongKind place
  found ← or_wrong (field_from 0 fields name.text) UnknownName name.place
  y ← go found.1
  Right (record { type = y.type; selectors = Programs.field_of found.0 name.text y.selectors })

-- an element of a type by an index that begins at a place, and what stands behind it
abbrev pub indexed : (place first : ℕ) → Programs.DataType → Verdicts.Typed → (Programs.DataType → Verdict Verdicts.Path) → Verdict Verdicts.Path
indexed place first s x go = do
  integer ← test (same_scalar_type x.type Integer) TypesDiffer first
  found ← or_wrong (elements_of s) WrongKind place
  y ← go found.1
  Right (record { type = y.type; selectors = Programs.element_of found.0 x.code y.selectors })
