-- The sites of expressions, variables and actuals have places.
use Rattle.std.proofs.Common.{◌≡◌, ap, sym, subst, ℕ, suc, Bool, true, false, List, if◌then◌else◌, Option, Some, None}
use Rattle.ob_grammar.specs.declared.tree.Sign.{Sign}
use Rattle.ob_grammar.specs.Tree
use Rattle.ob_grammar.specs.Tree.{Expr}
use Rattle.ob_interface.specs.declared.scalar.Scalar.{Scalar}
use Rattle.ob_interface.specs.declared.scalar.ScalarType.{ScalarType}
use Rattle.ob_typing.specs.declared.operator.BinaryOperator.{BinaryOperator}
use Rattle.ob_typing.specs.Program as Programs
use Rattle.ob_typing.specs.Program.{DataType, Expression, Literal, ValueOf, Negated, Operations, Designator, Actual, Parameter}
use Rattle.ob_typing.specs.Arithmetic.{Evaluated, number_of, computed, decides, negated}
use Rattle.ob_typing.specs.Scopes.{Environment, Meant, Nothing, AConstant, AType, AVariable, FarVariable, AProcedure, meant}
use Rattle.ob_typing.specs.Expressions as Typing
use Rattle.ob_typing.specs.Expressions.{Use, with_sign, HasType, AreOperands, IsVariable, Selects}
use Rattle.ob_typing.specs.Statements as TypedStatements
use Rattle.ob_typing.specs.Statements.{IsActual, Fits as ActualsFit, unless_constant, bare}
use Rattle.ob_meaning.specs.OverStore.{Stores, within}
use Rattle.ob_trap_places.specs.Site.{Cause, Operating, Negating, Indexing, Sited, Yields, at, of_part}
use Rattle.ob_trap_places.specs.SitesOverStore as Sites
use Rattle.ob_trap_places.specs.Places.{Places, Parts, no_part, before, itself, of_parts, with_behind, signed, places_in, parts_of_operands, parts_of_selectors, parts_of_actuals}
use Rattle.ob_trap_places.proofs.Landing.{bind, Fits, FitsFrom, bound, bound_from, whole, later, first_part, at_part}

some_pair : (p q : Tree.Name × Tree.Selectors) → Some p ≡ Some q → p ≡ q
some_pair p q h = cc

pair : (p q : Tree.Name × Tree.Selectors) → Some p ≡ Some q → p.1 ≡ q.1
pair p q h = ap (λ x. x.1) (some_pair p q h)

same_selectors : (m : Meant) (n name : Tree.Name) (others selectors : Tree.Selectors) → unless_constant m n others ≡ Some (name, selectors) → others ≡ selectors
same_selectors Nothing n name others selectors h = pair (n, others) (name, selectors) h
same_selectors (AConstant value) n name others selectors h = absurd cc
same_selectors (AType type) n name others selectors h = pair (n, others) (name, selectors) h
same_selectors (AVariable slot type) n name others selectors h = pair (n, others) (name, selectors) h
same_selectors FarVariable n name others selectors h = pair (n, others) (name, selectors) h
same_selectors (AProcedure number parameters) n name others selectors h = pair (n, others) (name, selectors) h

module _ (procedures : ℕ → Places) where
  -- an operator or a bracket, and what stands behind it
  behind_fits : {A : Type 0} (place : ℕ) (inner : Places) (x : Sited A) → Fits procedures inner x → Fits procedures (with_behind place inner) (of_part 1 x)
  behind_fits place inner x h =
      whole procedures (before (itself place) (before inner no_part)) (of_part 1 x)
      (later procedures (itself place) (before inner no_part) 0 (of_part 1 x) (first_part procedures inner no_part 1 x h))

  itself_fits : {A : Type 0} (place : ℕ) (inner : Places) (c : Cause) (v : Evaluated A) → Fits procedures (with_behind place inner) (at 0 c v)
  itself_fits place inner c v =
      whole procedures (before (itself place) (before inner no_part)) (at 0 c v) (at_part procedures place (before inner no_part) 0 c v)

  either_fits : {A : Type 0} (places : Places) (b : Bool) (x y : Sited A) → Fits procedures places x → Fits procedures places y → Fits procedures places (if b then x else y)
  either_fits places true x y h k = h
  either_fits places false x y h k = k

  applied_fits : (place : ℕ) (inner : Places) (o : BinaryOperator) (v : Scalar) (right : Sited Scalar) → Fits procedures inner right →
      Fits procedures (with_behind place inner) (Sites.applied o v right)
  applied_fits place inner o v right h =
      either_fits (with_behind place inner) (decides o v) (Yields v) (bind (of_part 1 right) (λ w. at 0 (Operating o v w) (computed o v w))) tt
      (bound procedures (with_behind place inner) (of_part 1 right) (λ w. at 0 (Operating o v w) (computed o v w)) (behind_fits place inner right h)
      (λ w. itself_fits place inner (Operating o v w) (computed o v w)))

  indexed_fits : (place : ℕ) (inner : Places) (length : ℕ) (index : Sited Scalar) → Fits procedures inner index →
      Fits procedures (with_behind place inner) (Sites.indexed length index)
  indexed_fits place inner length index h =
      bound procedures (with_behind place inner) (of_part 1 index) (λ x. at 0 (Indexing length (number_of x)) (within length (number_of x))) (behind_fits place inner index h)
      (λ x. itself_fits place inner (Indexing length (number_of x)) (within length (number_of x)))

  module _ (stores : Stores) (store : stores.Store) (env : Environment) where
    negated_fits : (place : ℕ) (inner : Places) (b : Expression) → Fits procedures inner (Sites.value_of stores store b) →
        Fits procedures (with_behind place inner) (Sites.value_of stores store (Negated b))
    negated_fits place inner b h =
        bound procedures (with_behind place inner) (of_part 1 (Sites.value_of stores store b)) _
        (behind_fits place inner (Sites.value_of stores store b) h) (λ x. itself_fits place inner (Negating x) (negated x))

    signed_if : (minus : Bool) (place : ℕ) (operand : Places) (b : Expression) → Fits procedures operand (Sites.value_of stores store b) →
        Fits procedures (if minus then with_behind place operand else operand) (Sites.value_of stores store (if minus then Negated b else b))
    signed_if true place operand b h = negated_fits place operand b h
    signed_if false place operand b h = h

    signed_fits : (sign : Option Sign) (operand : Places) (b : Expression) → Fits procedures operand (Sites.value_of stores store b) →
        Fits procedures (signed sign operand) (Sites.value_of stores store (with_sign sign b))
    signed_fits None operand b h = h
    signed_fits (Some sign) operand b h = signed_if sign.is_minus sign.place operand b h

    chain : (first : Places) (rest : Parts) (b : Expression) (operations : Operations) → Fits procedures first (Sites.value_of stores store b) →
        ((x : Scalar) → FitsFrom procedures rest 1 (Sites.value_behind stores store 1 x operations)) →
        Fits procedures (of_parts (before first rest)) (Sites.value_of stores store (Programs.Computed b operations))
    chain first rest b operations h k =
        whole procedures (before first rest) (Sites.value_of stores store (Programs.Computed b operations))
        (bound_from procedures (before first rest) 0 (of_part 0 (Sites.value_of stores store b)) _
        (first_part procedures first rest 0 (Sites.value_of stores store b) h)
        (λ x. later procedures first rest 0 (Sites.value_behind stores store 1 x operations) (k x)))

    mutual
      pub value : {use' : Use} {e : Expr} {t : ScalarType} {c : Expression} {v : Option Scalar} → HasType env use' e t c v →
          Fits procedures (places_in e) (Sites.value_of stores store c)
      value Typing.number = tt
      value (Typing.constant m) = tt
      value (Typing.variable {selectors = selectors} {d = d} h) =
          bound procedures (of_parts (parts_of_selectors selectors)) (Sites.place_of stores store d) _ (variable h) (λ p. tt)
      value (Typing.parens h) = value h
      value (Typing.not {place = place} {e = e} {c = c} h) =
          bound procedures (with_behind place (places_in e)) (of_part 1 (Sites.value_of stores store c)) _
          (behind_fits place (places_in e) (Sites.value_of stores store c) (value h)) (λ x. tt)
      value (Typing.product {first = first} {rest = rest} {b = b} {operations = operations} h k) =
          chain (places_in first) (parts_of_operands rest) b operations (value h) (λ x. operands k 1 x)
      value (Typing.sum {sign = sign} {first = first} {rest = rest} {b = b} {operations = operations} h fits is k) =
          chain (signed sign (places_in first)) (parts_of_operands rest) (with_sign sign b) operations (signed_fits sign (places_in first) b (value h)) (λ x. operands k 1 x)
      value (Typing.comparison {left = left} {right = right} {place = place} {o = o} {b = b} {c = c} h k is fits) =
          let behind : Parts = before (places_in right) no_part in
          let operator : Parts = before (itself place) behind in
          whole procedures (before (places_in left) operator) (Sites.value_of stores store (Programs.Compared o b c))
          (bound_from procedures (before (places_in left) operator) 0 (of_part 0 (Sites.value_of stores store b)) _
          (first_part procedures (places_in left) operator 0 (Sites.value_of stores store b) (value h)) (λ x.
          bound_from procedures (before (places_in left) operator) 0 (of_part 2 (Sites.value_of stores store c)) _
          (later procedures (places_in left) operator 0 (of_part 2 (Sites.value_of stores store c))
          (later procedures (itself place) behind 1 (of_part 2 (Sites.value_of stores store c))
          (first_part procedures (places_in right) no_part 2 (Sites.value_of stores store c) (value k)))) (λ y. tt)))

      operands : {use' : Use} {t : ScalarType} {v w : Option Scalar} {rest : Tree.Operands} {operations : Operations} → AreOperands env use' t v rest operations w →
          (n : ℕ) (x : Scalar) → FitsFrom procedures (parts_of_operands rest) n (Sites.value_behind stores store n x operations)
      operands Typing.no_operand n x = tt
      operands (Typing.operand {o = o} {place = place} {e = e} {rest = rest} {c = c} {operations = operations} is h fits gives k) n x =
          let first : Places = with_behind place (places_in e) in
          bound_from procedures (before first (parts_of_operands rest)) n (of_part n (Sites.applied o x (Sites.value_of stores store c))) _
          (first_part procedures first (parts_of_operands rest) n (Sites.applied o x (Sites.value_of stores store c))
          (applied_fits place (places_in e) o x (Sites.value_of stores store c) (value h))) (λ y.
          later procedures first (parts_of_operands rest) n (Sites.value_behind stores store (suc n) y operations) (operands k (suc n) y))

      pub variable : {name : Tree.Name} {selectors : Tree.Selectors} {t : DataType} {d : Designator} → IsVariable env name selectors t d →
          Fits procedures (of_parts (parts_of_selectors selectors)) (Sites.place_of stores store d)
      variable (Typing.of_slot {selectors = selectors} {path = path} m h) =
          whole procedures (parts_of_selectors selectors) _
          (bound_from procedures (parts_of_selectors selectors) 0 (Sites.path_of stores store 0 path) _ (selected h 0) (λ p. tt))

      selected : {s t : DataType} {selectors : Tree.Selectors} {path : Programs.Selectors} → Selects env s selectors t path →
          (n : ℕ) → FitsFrom procedures (parts_of_selectors selectors) n (Sites.path_of stores store n path)
      selected Typing.itself n = tt
      selected (Typing.field {place = place} {rest = rest} {path = path} is at' h) n =
          bound_from procedures (before (itself place) (parts_of_selectors rest)) n (Sites.path_of stores store (suc n) path) _
          (later procedures (itself place) (parts_of_selectors rest) n (Sites.path_of stores store (suc n) path) (selected h (suc n))) (λ p. tt)
      selected (Typing.index {place = place} {length = length} {i = i} {rest = rest} {c = c} {path = path} h is k) n =
          let first : Places = with_behind place (places_in i) in
          let all : Parts = before first (parts_of_selectors rest) in
          bound_from procedures all n (of_part n (Sites.indexed length (Sites.value_of stores store c))) _
          (first_part procedures first (parts_of_selectors rest) n (Sites.indexed length (Sites.value_of stores store c))
          (indexed_fits place (places_in i) length (Sites.value_of stores store c) (value h))) (λ j.
          bound_from procedures all n (Sites.path_of stores store (suc n) path) _
          (later procedures first (parts_of_selectors rest) n (Sites.path_of stores store (suc n) path) (selected k (suc n))) (λ p. tt))

    -- a bare name with selectors is one
    named : (e : Expr) (name : Tree.Name) (selectors : Tree.Selectors) → bare env e ≡ Some (name, selectors) → (x : Sited stores.Place) →
        Fits procedures (of_parts (parts_of_selectors selectors)) x → Fits procedures (places_in e) x
    named (Tree.Number z place) name selectors h x k = absurd cc
    named (Tree.Named n others) name selectors h x k =
        subst (λ ss. Fits procedures (of_parts (parts_of_selectors ss)) x) (sym (same_selectors (meant env n.text) n name others selectors h)) k
    named (Tree.Parens place e) name selectors h x k = absurd cc
    named (Tree.Not place e) name selectors h x k = absurd cc
    named (Tree.Product first rest) name selectors h x k = absurd cc
    named (Tree.Sum sign first rest) name selectors h x k = absurd cc
    named (Tree.Comparison left operator place right) name selectors h x k = absurd cc

    handed : {p : Parameter} {e : Expr} {actual : Actual} → IsActual env p e actual → Fits procedures (places_in e) (Sites.handed stores store actual)
    handed (TypedStatements.value {e = e} {c = c} var h fits) = bound procedures (places_in e) (Sites.value_of stores store c) _ (value h) (λ v. tt)
    handed (TypedStatements.place {e = e} {name = name} {selectors = selectors} {d = d} var is h same) =
        bound procedures (places_in e) (Sites.place_of stores store d) _
        (named e name selectors is (Sites.place_of stores store d) (variable h)) (λ p. tt)

    pub all_handed : {ps : List Parameter} {es : List Expr} {actuals : List Actual} → ActualsFit env ps es actuals →
        (n : ℕ) → FitsFrom procedures (parts_of_actuals es) n (Sites.all_handed stores store n actuals)
    all_handed TypedStatements.none n = tt
    all_handed (TypedStatements.more {e = e} {es = es} {c = c} {cs = cs} h k) n =
        bound_from procedures (before (places_in e) (parts_of_actuals es)) n (of_part n (Sites.handed stores store c)) _
        (first_part procedures (places_in e) (parts_of_actuals es) n (Sites.handed stores store c) (handed h)) (λ first.
        bound_from procedures (before (places_in e) (parts_of_actuals es)) n (Sites.all_handed stores store (suc n) cs) _
        (later procedures (places_in e) (parts_of_actuals es) n (Sites.all_handed stores store (suc n) cs) (all_handed k (suc n))) (λ rest. tt))
