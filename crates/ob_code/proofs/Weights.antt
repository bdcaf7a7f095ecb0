-- The size of expressions, which falls from an expression to those within it.
use Rattle.std.proofs.Common.{◌≡◌, ℕ, suc, zero, ◌+◌, ◌<◌, ◌≤◌, List, [], ◌∷◌, length, get_or, refl, ap, ◌∙◌, Box, Vec, arith}
use Rattle.std.specs.declared.alloc.Global.{Global}
use Rattle.ob_interface.specs.declared.scalar.ScalarType.{ScalarType}
use Rattle.ob_typing.specs.Program as Programs
use Rattle.ob_typing.specs.declared.operator.Relation.{Relation}
use Rattle.ob_checked.specs.declared.program.Designator.{Designator}
use Rattle.ob_checked.specs.declared.program.Expression.{Expression}
use Rattle.ob_checked.specs.declared.program.Expression.TheVariants as Expressions
use Rattle.ob_checked.specs.declared.program.Operation.{Operation}
use Rattle.ob_checked.specs.declared.program.Selector.{Selector}
use Rattle.ob_checked.specs.declared.program.Selector.TheVariants.{Field, Element}
use Rattle.ob_checked.specs.View.{expression_of, operations_in, selectors_in, designator_of}
use Rattle.ob_checked.proofs.Rows.{expression_of-value, expression_of-computed}

abbrev mutual
  pub weight : Programs.Expression → ℕ
  weight (Programs.Literal scalar) = 1
  weight (Programs.ValueOf type d) = 2 + weight_of_designator d
  weight (Programs.Negated e) = suc (weight e)
  weight (Programs.Complement e) = suc (weight e)
  weight (Programs.Computed first rest) = suc (weight first + weight_of_operations rest)
  weight (Programs.Compared relation left right) = suc (weight left + weight right)

  pub weight_of_operations : Programs.Operations → ℕ
  weight_of_operations Programs.no_operation = 0
  weight_of_operations (Programs.operation operator operand rest) = 2 + weight operand + weight_of_operations rest

  pub weight_of_designator : Programs.Designator → ℕ
  weight_of_designator (Programs.Designated slot selectors) = weight_of_selectors selectors

  pub weight_of_selectors : Programs.Selectors → ℕ
  weight_of_selectors Programs.no_selector = 0
  weight_of_selectors (Programs.field_of position name rest) = 2 + weight_of_selectors rest
  weight_of_selectors (Programs.element_of n index rest) = 2 + weight index + weight_of_selectors rest

positive : (e : Programs.Expression) → 0 < weight e
positive (Programs.Literal scalar) = omega arith
positive (Programs.ValueOf type d) = omega arith
positive (Programs.Negated e) = omega arith
positive (Programs.Complement e) = omega arith
positive (Programs.Computed first rest) = omega arith
positive (Programs.Compared relation left right) = omega arith

pub value_falls : (x : Expression) (type : ScalarType) (v : Designator) → x ≡ Expressions.ValueOf type v →
    weight_of_designator (designator_of v) + 1 < weight (expression_of x)
value_falls x type v is = let whole = ap weight (ap expression_of is ∙ expression_of-value type v) in omega (arith, whole)

pub negated_falls : (x f : Expression) (operand : Box Expression Global) → x ≡ Expressions.Negated operand → f ≡ operand.value →
    weight (expression_of f) < weight (expression_of x)
negated_falls x f operand is same =
    let whole = ap (λ y. weight (expression_of y)) is in
    let part = ap (λ y. weight (expression_of y)) same in
    omega (arith, whole, part)

pub complement_falls : (x f : Expression) (operand : Box Expression Global) → x ≡ Expressions.Complement operand → f ≡ operand.value →
    weight (expression_of f) < weight (expression_of x)
complement_falls x f operand is same =
    let whole = ap (λ y. weight (expression_of y)) is in
    let part = ap (λ y. weight (expression_of y)) same in
    omega (arith, whole, part)

pub computed_falls : (x f : Expression) (first : Box Expression Global) (rest : Vec Operation Global) (os : List Operation) →
    x ≡ Expressions.Computed first rest → f ≡ first.value → os ≡ rest.items →
    (weight (expression_of f) < weight (expression_of x)) × (weight_of_operations (operations_in os) < weight (expression_of x))
computed_falls x f first rest os is same items =
    let whole = ap weight (ap expression_of is ∙ expression_of-computed first rest) in
    let part = ap (λ y. weight (expression_of y)) same in
    let parts = ap (λ ys. weight_of_operations (operations_in ys)) items in
    let some = positive (expression_of f) in
    (omega (arith, whole, part), omega (arith, whole, part, parts, some))

pub compared_falls : (x l r : Expression) (relation : Relation) (left right : Box Expression Global) →
    x ≡ Expressions.Compared relation left right → l ≡ left.value → r ≡ right.value →
    (weight (expression_of l) < weight (expression_of x)) × (weight (expression_of r) < weight (expression_of x))
compared_falls x l r relation left right is left_is right_is =
    let whole = ap (λ y. weight (expression_of y)) is in
    let one = ap (λ y. weight (expression_of y)) left_is in
    let two = ap (λ y. weight (expression_of y)) right_is in
    (omega (arith, whole, one), omega (arith, whole, two))

operand_within : (xs : List Operation) (i : ℕ) (d : Operation) → i < length xs → weight (expression_of (get_or xs i d).operand) + 1 < weight_of_operations (operations_in xs)
operand_within [] i d h = absurd (omega (arith, h))
operand_within (x ∷ xs) zero d h = omega arith
operand_within (x ∷ xs) (suc i) d h = let rest = operand_within xs i d (omega (arith, h)) in omega (arith, rest)

pub operand_at : (xs : List Operation) (i : ℕ) (x d : Operation) → i < length xs → x ≡ get_or xs i d → weight (expression_of x.operand) + 1 < weight_of_operations (operations_in xs)
operand_at xs i x d here is =
    let within = operand_within xs i d here in
    let same = ap (λ (o : Operation). weight (expression_of o.operand)) is in
    omega (arith, within, same)

pub index_falls : (s : Selector) (n : ℕ) (index : Expression) → s ≡ Element n index → weight (expression_of index) < weight_of_selectors (selectors_in (s ∷ []))
index_falls s n index is = let whole = ap (λ y. weight_of_selectors (selectors_in (y ∷ []))) is in omega (arith, whole)

selector_first : (x : Selector) (xs : List Selector) →
    weight_of_selectors (selectors_in (x ∷ xs)) ≡ weight_of_selectors (selectors_in (x ∷ [])) + weight_of_selectors (selectors_in xs)
selector_first (Field position name) xs = omega arith
selector_first (Element n index) xs = omega arith

selector_within : (xs : List Selector) (i : ℕ) (d : Selector) → i < length xs → weight_of_selectors (selectors_in (get_or xs i d ∷ [])) ≤ weight_of_selectors (selectors_in xs)
selector_within [] i d h = absurd (omega (arith, h))
selector_within (x ∷ xs) zero d h = let sum = selector_first x xs in omega (arith, sum)
selector_within (x ∷ xs) (suc i) d h =
    let sum = selector_first x xs in
    let rest = selector_within xs i d (omega (arith, h)) in
    omega (arith, sum, rest)

pub selector_at : (xs : List Selector) (i : ℕ) (x d : Selector) → i < length xs → x ≡ get_or xs i d →
    weight_of_selectors (selectors_in (x ∷ [])) ≤ weight_of_selectors (selectors_in xs)
selector_at xs i x d here is =
    let within = selector_within xs i d here in
    let same = ap (λ (s : Selector). weight_of_selectors (selectors_in (s ∷ []))) is in
    omega (arith, within, same)
