-- The expression of a text has a verdict, and in a constant expression a value: by recursion on its derivation.
use Rattle.std.proofs.Common.{◌≡◌, refl, ℕ, Option, Some, None}
use Rattle.ob_scan.specs.declared.token.Kind.{Kind}
use Rattle.ob_grammar.specs.declared.tree.Operator.{Operator}
use Rattle.ob_grammar.specs.declared.tree.Sign.{Sign}
use Rattle.ob_grammar.specs.Tree
use Rattle.ob_grammar.specs.Tree.{Expr, Operands, Selectors}
use Rattle.ob_grammar.specs.Grammar as Grammar
use Rattle.ob_grammar.specs.Grammar.{Lexemes, IsRelation, IsAddition, IsMultiplication, Expression, SimpleExpression, Term, Terms, Factor, Factors, Selector}
use Rattle.ob_interface.specs.declared.scalar.Scalar.{Scalar}
use Rattle.ob_interface.specs.declared.scalar.Scalar.TheVariants.{Int}
use Rattle.ob_interface.specs.declared.scalar.ScalarType.{ScalarType}
use Rattle.ob_interface.specs.declared.scalar.ScalarType.TheVariants.{Integer, Boolean}
use Rattle.ob_typing.specs.declared.operator.BinaryOperator.{BinaryOperator}
use Rattle.ob_typing.specs.declared.operator.BinaryOperator.TheVariants as Binary
use Rattle.ob_typing.specs.declared.operator.Relation.{Relation}
use Rattle.ob_typing.specs.declared.operator.Relation.TheVariants as Relations
use Rattle.ob_typing.specs.declared.rule.Rule.TheVariants.{UnknownName, WrongKind, TypesDiffer}
use Rattle.ob_typing.specs.Program.{DataType}
use Rattle.ob_typing.specs.Arithmetic.{same_scalar_type, takes_both, compares, operator_of, relation_of}
use Rattle.ob_typing.specs.Scopes.{Environment, Meant, Nothing, AConstant, AType, AVariable, FarVariable, AProcedure, meant, type_meant, is_simple, fields_of, elements_of, field_from}
use Rattle.ob_typing.specs.Expressions.{Use, InStatement, InConstant, NotComputed, known, behind, value_behind, sign_fits, value_signed}
use Rattle.ob_typing.specs.ExpressionFaults.{first_place, value_broken}
use Rattle.ob_typing.specs.Verdict.{◌>>=◌, need}
use Rattle.ob_typing.specs.ExpressionVerdicts.{Typed, Chain, named_value, sign_place, expression, operands, selecting}
use Rattle.ob_typing.proofs.Decided.{Has, Any, has_step, has_need, has_or_wrong, has_test, has_unless, has_result, KnownIn, known_in, complement_known, signed_known, behind_known, compared_known}

relation_is : {kind : Kind} {operator : Operator} → IsRelation kind operator → (o : Relation) × (relation_of operator ≡ Some o)
relation_is Grammar.equal = (Relations.Equal, refl)
relation_is Grammar.not_equal = (Relations.NotEqual, refl)
relation_is Grammar.less = (Relations.Less, refl)
relation_is Grammar.less_or_equal = (Relations.LessOrEqual, refl)
relation_is Grammar.greater = (Relations.Greater, refl)
relation_is Grammar.greater_or_equal = (Relations.GreaterOrEqual, refl)

addition_is : {kind : Kind} {operator : Operator} → IsAddition kind operator → (o : BinaryOperator) × (operator_of operator ≡ Some o)
addition_is Grammar.plus = (Binary.Plus, refl)
addition_is Grammar.minus = (Binary.Minus, refl)
addition_is Grammar.or = (Binary.Or, refl)

multiplication_is : {kind : Kind} {operator : Operator} → IsMultiplication kind operator → (o : BinaryOperator) × (operator_of operator ≡ Some o)
multiplication_is Grammar.times = (Binary.Times, refl)
multiplication_is Grammar.div = (Binary.Div, refl)
multiplication_is Grammar.mod' = (Binary.Mod, refl)
multiplication_is Grammar.and = (Binary.And, refl)

module _ (env : Environment) where
  abbrev pub IsDecided : Expr → Type 0
  IsDecided e = (use' : Use) → Has (λ x. KnownIn use' x.value) (expression env e use')

  abbrev OperandsDecided : Operands → Type 0
  OperandsDecided rest = (use' : Use) (t : ScalarType) (v : Option Scalar) → KnownIn use' v → Has (λ y. KnownIn use' y.value) (operands env rest use' t v)

  abbrev pub SelectorsDecided : Selectors → Type 0
  SelectorsDecided selectors = (use' : Use) (s : DataType) → Has Any (selecting env selectors use' s)

  -- a name that stands for a value, behind its selectors
  named_has : (name : Tree.Name) (selectors : Selectors) → SelectorsDecided selectors → IsDecided (Tree.Named name selectors)
  named_has name selectors h use' =
      has_unless (λ x. KnownIn use' x.value) (value_broken use' (meant env name.text)) name.place _ (λ ok. by use' (meant env name.text) ok)
    where
      by : (u : Use) (m : Meant) → value_broken u m ≡ None →
          Has (λ x. KnownIn u x.value) (◌>>=◌ (need (type_meant m)) (λ s. ◌>>=◌ (selecting env selectors u s) (λ path. named_value u name.place m path)))
      by u (AConstant v) ok =
          has_step (λ x. KnownIn u x.value) Any (selecting env selectors u _) _ (h u _) (λ path k. known_in u v)
      by InStatement (AVariable slot t) ok =
          has_step (λ x. KnownIn InStatement x.value) Any (selecting env selectors InStatement t) _ (h InStatement t)
          (λ path k. has_test (λ x. KnownIn InStatement x.value) (is_simple path.type) TypesDiffer name.place _ (λ simple. tt))
      by InConstant (AVariable slot t) ok = absurd cc
      by NotComputed (AVariable slot t) ok = absurd cc
      by u Nothing ok = absurd cc
      by u (AType t) ok = absurd cc
      by InStatement FarVariable ok = absurd cc
      by InConstant FarVariable ok = absurd cc
      by NotComputed FarVariable ok = absurd cc
      by u (AProcedure n ps) ok = absurd cc

  operand_has : (operator : Operator) (place : ℕ) (e : Expr) (rest : Operands) (o : BinaryOperator) → operator_of operator ≡ Some o →
      IsDecided e → OperandsDecided rest → OperandsDecided (Tree.operand operator place e rest)
  operand_has operator place e rest o is h k use' t v known =
      let Q : Chain → Type 0 = λ y. KnownIn use' y.value in
      has_need Q (operator_of operator) o _ is
      (has_step Q (λ x. KnownIn (behind use' o v) x.value) (expression env e (behind use' o v)) _ (h (behind use' o v))
      (λ x l. has_test Q (takes_both o t x.type) TypesDiffer place _
      (λ fits. has_result Q (value_behind o v x.value) place _
      (λ w goes. has_step Q Q (operands env rest use' t w) _ (k use' t w (behind_known use' o v x.value w goes known))
      (λ y m. m)))))

  product_has : (first : Expr) (rest : Operands) → IsDecided first → OperandsDecided rest → IsDecided (Tree.Product first rest)
  product_has first rest h k use' =
      let Q : Typed → Type 0 = λ x. KnownIn use' x.value in
      has_step Q Q (expression env first use') _ (h use')
      (λ x l. has_step Q (λ y. KnownIn use' y.value) (operands env rest use' x.type x.value) _ (k use' x.type x.value l) (λ y m. m))

  sum_has : (sign : Option Sign) (first : Expr) (rest : Operands) → IsDecided first → OperandsDecided rest → IsDecided (Tree.Sum sign first rest)
  sum_has sign first rest h k use' =
      let Q : Typed → Type 0 = λ x. KnownIn use' x.value in
      has_step Q Q (expression env first use') _ (h use')
      (λ x l. has_test Q (sign_fits sign x.type) TypesDiffer (sign_place sign) _
      (λ fits. has_result Q (value_signed sign x.value) (sign_place sign) _
      (λ v signs. has_step Q (λ y. KnownIn use' y.value) (operands env rest use' x.type v) _ (k use' x.type v (signed_known use' sign x.value v signs l)) (λ y m. m))))

  comparison_has : (left right : Expr) (operator : Operator) (place : ℕ) (o : Relation) → relation_of operator ≡ Some o →
      IsDecided left → IsDecided right → IsDecided (Tree.Comparison left operator place right)
  comparison_has left right operator place o is h k use' =
      let Q : Typed → Type 0 = λ x. KnownIn use' x.value in
      has_step Q Q (expression env left use') _ (h use')
      (λ x l. has_step Q Q (expression env right use') _ (k use')
      (λ y m. has_need Q (relation_of operator) o _ is
      (has_test Q (compares o x.type y.type) TypesDiffer place _ (λ fits. compared_known use' o x.value y.value l m))))

  not_has : (place : ℕ) (e : Expr) → IsDecided e → IsDecided (Tree.Not place e)
  not_has place e h use' =
      let Q : Typed → Type 0 = λ x. KnownIn use' x.value in
      has_step Q Q (expression env e use') _ (h use')
      (λ x l. has_test Q (same_scalar_type x.type Boolean) TypesDiffer place _ (λ boolean. complement_known use' x.value l))

  no_operand_has : OperandsDecided Tree.no_operand
  no_operand_has use' t v h = h

  index_has : (place : ℕ) (i : Expr) (rest : Selectors) → IsDecided i → SelectorsDecided rest → SelectorsDecided (Tree.index place i rest)
  index_has place i rest h k use' s =
      has_step Any (λ x. KnownIn use' x.value) (expression env i use') _ (h use')
      (λ x l. has_test Any (same_scalar_type x.type Integer) TypesDiffer (first_place i) _
      (λ integer. has_or_wrong Any (elements_of s) WrongKind place _
      (λ found is. has_step Any Any (selecting env rest use' found.1) _ (k use' found.1) (λ y m. tt))))

  field_has : (place : ℕ) (name : Tree.Name) (rest : Selectors) → SelectorsDecided rest → SelectorsDecided (Tree.field place name rest)
  field_has place name rest k use' s =
      has_or_wrong Any (fields_of s) WrongKind place _
      (λ fields is. has_or_wrong Any (field_from 0 fields name.text) UnknownName name.place _
      (λ found at. has_step Any Any (selecting env rest use' found.1) _ (k use' found.1) (λ y m. tt)))

  mutual
    pub expression_decided : {a b : Lexemes} {e : Expr} → Expression a e b → IsDecided e
    expression_decided (Grammar.simple h) = simple_decided h
    expression_decided (Grammar.comparison {left = left} {right = right} {operator = operator} {place = place} h o at k) =
        let r = relation_is o in comparison_has left right operator place r.0 r.1 (simple_decided h) (simple_decided k)

    simple_decided : {a b : Lexemes} {e : Expr} → SimpleExpression a e b → IsDecided e
    simple_decided (Grammar.one_term h) = term_decided h
    simple_decided (Grammar.signed {sign = sign} {first = first} {rest = rest} s h k) = sum_has (Some sign) first rest (term_decided h) (terms_decided k)
    simple_decided (Grammar.sum {first = first} {second = second} {operator = operator} {place = place} {rest = rest} h o at k l) =
        let r = addition_is o in
        sum_has None first (Tree.operand operator place second rest) (term_decided h)
        (operand_has operator place second rest r.0 r.1 (term_decided k) (terms_decided l))

    terms_decided : {a b : Lexemes} {rest : Operands} → Terms a rest b → OperandsDecided rest
    terms_decided Grammar.no_term = no_operand_has
    terms_decided (Grammar.more_terms {operator = operator} {place = place} {e = e} {rest = rest} o at h k) =
        let r = addition_is o in operand_has operator place e rest r.0 r.1 (term_decided h) (terms_decided k)

    term_decided : {a b : Lexemes} {e : Expr} → Term a e b → IsDecided e
    term_decided (Grammar.one_factor h) = factor_decided h
    term_decided (Grammar.product {first = first} {second = second} {operator = operator} {place = place} {rest = rest} h o at k l) =
        let r = multiplication_is o in
        product_has first (Tree.operand operator place second rest) (factor_decided h)
        (operand_has operator place second rest r.0 r.1 (factor_decided k) (factors_decided l))

    factors_decided : {a b : Lexemes} {rest : Operands} → Factors a rest b → OperandsDecided rest
    factors_decided Grammar.no_factor = no_operand_has
    factors_decided (Grammar.more_factors {operator = operator} {place = place} {e = e} {rest = rest} o at h k) =
        let r = multiplication_is o in operand_has operator place e rest r.0 r.1 (factor_decided h) (factors_decided k)

    factor_decided : {a b : Lexemes} {e : Expr} → Factor a e b → IsDecided e
    factor_decided (Grammar.named {name = name} {selectors = selectors} t h) = named_has name selectors (selector_decided h)
    factor_decided Grammar.number = λ use'. known_in use' (Int _)
    factor_decided (Grammar.parens l h r) = expression_decided h
    factor_decided (Grammar.not {place = place} {e = e} t h) = not_has place e (factor_decided h)

    pub selector_decided : {a b : Lexemes} {selectors : Selectors} → Selector a selectors b → SelectorsDecided selectors
    selector_decided Grammar.no_more = λ use' s. tt
    selector_decided (Grammar.field {place = place} {name = name} {rest = rest} d n h) = field_has place name rest (selector_decided h)
    selector_decided (Grammar.index {place = place} {i = i} {rest = rest} l h r k) = index_has place i rest (expression_decided h) (selector_decided k)
