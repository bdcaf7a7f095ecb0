-- One operand or one selector more, behind those that are done.
use Rattle.std.proofs.Common.{◌≡◌, ℕ, ◌+◌, List, [], ◌∷◌, ◌++◌, length, drop, true, Option, Some, refl, sym, ap, ◌∙◌}
use Rattle.std.specs.Prelude.{string_bytes}
use Rattle.ob_grammar.specs.declared.tree.Expr.{Expr}
use Rattle.ob_grammar.specs.declared.tree.Name.{Name}
use Rattle.ob_grammar.specs.declared.tree.Operand.{Operand}
use Rattle.ob_grammar.specs.declared.tree.Selector as Written
use Rattle.ob_grammar.specs.declared.tree.Selector.TheVariants.{Field, Index}
use Rattle.ob_grammar.specs.Tree
use Rattle.ob_grammar.specs.View as Trees
use Rattle.ob_grammar.specs.View.{name_of, expr_of, operands_in}
use Rattle.ob_typing.specs.declared.operator.BinaryOperator.{BinaryOperator}
use Rattle.ob_interface.specs.declared.scalar.Scalar.{Scalar}
use Rattle.ob_interface.specs.declared.scalar.ScalarType.{ScalarType}
use Rattle.ob_typing.specs.Program as Programs
use Rattle.ob_typing.specs.Arithmetic.{Gives, takes_both, operator_of}
use Rattle.ob_typing.specs.Scopes.{Environment}
use Rattle.ob_typing.specs.Expressions.{Use, behind, value_behind}
use Rattle.ob_typing.specs.ExpressionFaults.{first_place}
use Rattle.ob_typing.specs.Verdict.{Verdict, Right, ◌>>=◌}
use Rattle.ob_typing.specs.ExpressionVerdicts as Verdicts
use Rattle.ob_typing.specs.ExpressionVerdicts.{expression, operands, selecting}
use Rattle.ob_checked.specs.declared.program.Operation.{Operation}
use Rattle.ob_checked.specs.declared.program.Selector.{Selector}
use Rattle.ob_checked.specs.declared.program.Selector.TheVariants as Selectors
use Rattle.ob_checked.specs.declared.types.DataType.{DataType}
use Rattle.ob_checked.specs.Types.{Entry, type_in}
use Rattle.ob_checked.specs.View.{expression_of}
use Rattle.ob_rules.specs.declared.expressions.Typed.{Typed}
use Rattle.ob_rules.specs.Checking.{typed_of, selector_before, selected_before, fielded, indexed, and_then}
use Rattle.ob_rules.proofs.Steps.{bind_assoc, bind_same}
use Rattle.ob_rules.proofs.Chains.{operations_before-push, resumed, selectors_before, walked}
use Rattle.ob_rules.proofs.Tails.{operand_right}

module _ (env : Environment) (use' : Use) where
  module _ (t : ScalarType) (all : List Operand) (i : ℕ) (o : Operand) (next : drop i all ≡ o ∷ drop (i + 1) all) where
    pub operands_next : (v w : Option Scalar) (operator : BinaryOperator) (x : Typed) → operator_of o.operator ≡ Some operator →
        expression env (expr_of o.value) (behind use' operator v) ≡ Right (typed_of x) → takes_both operator t x.data_type ≡ true →
        value_behind operator v x.value ≡ Gives w → (done : List Operation) →
        ◌>>=◌ (operands env (operands_in (drop i all)) use' t v) (resumed done)
        ≡ ◌>>=◌ (operands env (operands_in (drop (i + 1) all)) use' t w) (resumed (done ++ record { operator = operator; operand = x.code } ∷ []))
    operands_next v w operator x is typed fits gives done =
        let rest = operands_in (drop (i + 1) all) in
        ap (λ os. ◌>>=◌ (operands env (operands_in os) use' t v) (resumed done)) next
        ∙ ap (λ u. ◌>>=◌ u (resumed done)) (operand_right env use' t v o.operator o.place (expr_of o.value) rest operator is (typed_of x) typed w fits gives)
        ∙ bind_assoc (operands env rest use' t w) _ (resumed done)
        ∙ bind_same (operands env rest use' t w) _ _ (λ y.
        ap (λ os. Right (record { operations = os; value = y.value })) (operations_before-push done (record { operator = operator; operand = x.code }) y.operations))

  selectors_first : (selector : Written.Selector) (rest : List Written.Selector) → Trees.selectors_in (selector ∷ rest) ≡ selector_before selector (Trees.selectors_in rest)
  selectors_first (Field place name) rest = refl
  selectors_first (Index place e) rest = refl

  walked-push : (done : List Selector) (part : Selector) (y : Verdicts.Path) →
      ◌>>=◌ (selected_before part y) (walked done) ≡ walked (done ++ part ∷ []) y
  walked-push done part y = at done part
    where
      last : Selector → Programs.Selectors → Programs.Selectors
      last part rest = selectors_before (part ∷ []) rest

      push : (done : List Selector) (part : Selector) (rest : Programs.Selectors) → selectors_before done (last part rest) ≡ selectors_before (done ++ part ∷ []) rest
      push [] part rest = refl
      push (Selectors.Field position name ∷ ss) part rest = ap (Programs.field_of position (string_bytes name)) (push ss part rest)
      push (Selectors.Element length e ∷ ss) part rest = ap (Programs.element_of length (expression_of e)) (push ss part rest)

      at : (done : List Selector) (part : Selector) → ◌>>=◌ (selected_before part y) (walked done) ≡ walked (done ++ part ∷ []) y
      at done (Selectors.Field position name) = ap (λ ss. Right (record { type = y.type; selectors = ss })) (push done (Selectors.Field position name) y.selectors)
      at done (Selectors.Element length e) = ap (λ ss. Right (record { type = y.type; selectors = ss })) (push done (Selectors.Element length e) y.selectors)

  module _ (all : List Written.Selector) (i : ℕ) (selector : Written.Selector) (next : drop i all ≡ selector ∷ drop (i + 1) all) where
    pub selecting_first : (s : Programs.DataType) →
        selecting env (Trees.selectors_in (drop i all)) use' s ≡ selecting env (selector_before selector (Trees.selectors_in (drop (i + 1) all))) use' s
    selecting_first s = ap (λ ss. selecting env ss use' s) (ap Trees.selectors_in next ∙ selectors_first selector (drop (i + 1) all))

    pub selecting_next : (s of_type : Programs.DataType) (part : Selector) →
        ((rest : Tree.Selectors) → selecting env (selector_before selector rest) use' s ≡ and_then (selecting env rest use' of_type) (selected_before part)) →
        (done : List Selector) →
        ◌>>=◌ (selecting env (Trees.selectors_in (drop i all)) use' s) (walked done)
        ≡ ◌>>=◌ (selecting env (Trees.selectors_in (drop (i + 1) all)) use' of_type) (walked (done ++ part ∷ []))
    selecting_next s of_type part typed done =
        let rest = Trees.selectors_in (drop (i + 1) all) in
        ap (λ u. ◌>>=◌ u (walked done)) (selecting_first s ∙ typed rest)
        ∙ bind_assoc (selecting env rest use' of_type) (selected_before part) (walked done)
        ∙ bind_same (selecting env rest use' of_type) _ _ (walked-push done part)

  -- what one selector comes to
  module _ (selector : Written.Selector) (types others : List Entry) (same : others ≡ types) (whole : DataType) (rest : Tree.Selectors) where
    abbrev behind_selector : Programs.DataType → Verdict Verdicts.Path
    behind_selector t = selecting env rest use' t

    pub selector_field : (place : ℕ) (name : Name) → selector ≡ Field place name →
        selecting env (selector_before selector rest) use' (type_in types whole) ≡ fielded place (name_of name) (type_in others whole) behind_selector
    selector_field place name is =
        ap (λ x. selecting env (selector_before x rest) use' (type_in types whole)) is
        ∙ ap (λ ts. fielded place (name_of name) (type_in ts whole) behind_selector) (sym same)

    pub selector_index : (place : ℕ) (e : Expr) → selector ≡ Index place e → (x : Typed) → expression env (expr_of e) use' ≡ Right (typed_of x) →
        (first : ℕ) → first ≡ first_place (expr_of e) →
        selecting env (selector_before selector rest) use' (type_in types whole) ≡ indexed place first (type_in others whole) (typed_of x) behind_selector
    selector_index place e is x typed first at =
        ap (λ y. selecting env (selector_before y rest) use' (type_in types whole)) is
        ∙ ap (λ u. ◌>>=◌ u (λ y. indexed place (first_place (expr_of e)) (type_in types whole) y behind_selector)) typed
        ∙ ap (λ k. indexed place k (type_in types whole) (typed_of x) behind_selector) (sym at)
        ∙ ap (λ ts. indexed place first (type_in ts whole) (typed_of x) behind_selector) (sym same)
