-- The verdict on an expression tells its type, or the rule that it breaks first.
use Rattle.std.proofs.Common.{◌≡◌, refl, sym, subst, ℕ, true, false, Option, Some, None}
use Rattle.ob_grammar.specs.declared.tree.Sign.{Sign}
use Rattle.ob_grammar.specs.Tree
use Rattle.ob_grammar.specs.Tree.{Expr, Operands, Selectors}
use Rattle.ob_interface.specs.declared.scalar.Scalar.{Scalar}
use Rattle.ob_interface.specs.declared.scalar.ScalarType.{ScalarType}
use Rattle.ob_interface.specs.declared.scalar.ScalarType.TheVariants.{Integer, Boolean}
use Rattle.ob_typing.specs.declared.rule.Rule.TheVariants.{UnknownName, WrongKind, TypesDiffer, BadConstant}
use Rattle.ob_typing.specs.Program
use Rattle.ob_typing.specs.Program.{DataType, Simple, Array, Record, Fields, Literal}
use Rattle.ob_typing.specs.Arithmetic.{Traps, type_of, same_scalar_type, takes_both, compares, operator_of, relation_of}
use Rattle.ob_typing.specs.Scopes.{Environment, Meant, Nothing, AConstant, AType, AVariable, FarVariable, AProcedure, meant, type_meant, is_simple, fields_of, elements_of, field_from}
use Rattle.ob_typing.specs.Expressions
use Rattle.ob_typing.specs.Expressions.{Use, InStatement, InConstant, NotComputed, known, behind, value_behind, sign_fits, value_signed, HasType, AreOperands, Selects}
use Rattle.ob_typing.specs.ExpressionFaults
use Rattle.ob_typing.specs.ExpressionFaults.{broken, first_place, value_broken, ExpressionFails, OperandsFail, SelectorsFail}
use Rattle.ob_typing.specs.Verdict.{Verdict, Right, Wrong, Foreign}
use Rattle.ob_typing.proofs.Told.{Told, step, step_need, step_or_wrong, step_test, step_unless, step_result}
use Rattle.ob_typing.specs.ExpressionVerdicts.{Typed, Chain, Path, scalar_part, sign_place, named_value, expression, operands, selecting}

-- one scalar type or the other
pub is_boolean : (t : ScalarType) → same_scalar_type t Boolean ≡ true → t ≡ Boolean
is_boolean Boolean h = refl
is_boolean Integer h = cc

pub no_boolean : (t : ScalarType) → same_scalar_type t Boolean ≡ false → t ≡ Integer
no_boolean Integer h = refl
no_boolean Boolean h = cc

pub is_integer : (t : ScalarType) → same_scalar_type t Integer ≡ true → t ≡ Integer
is_integer Integer h = refl
is_integer Boolean h = cc

pub no_integer : (t : ScalarType) → same_scalar_type t Integer ≡ false → t ≡ Boolean
no_integer Boolean h = refl
no_integer Integer h = cc

simple_is : (t : DataType) → is_simple t ≡ true → t ≡ Simple (scalar_part t)
simple_is (Simple t) h = refl
simple_is (Array place length element) h = cc
simple_is (Record place fields) h = cc

no_fields : {A : Type 0} (t : DataType) (fields : Fields) → fields_of t ≡ Some fields → is_simple t ≡ true → A
no_fields (Simple t) fields h k = absurd cc
no_fields (Array place length element) fields h k = absurd cc
no_fields (Record place fs) fields h k = absurd cc

no_elements : {A : Type 0} (t : DataType) (x : ℕ × DataType) → elements_of t ≡ Some x → is_simple t ≡ true → A
no_elements (Simple t) x h k = absurd cc
no_elements (Array place length element) x h k = absurd cc
no_elements (Record place fs) x h k = absurd cc

pub the_some : {A : Type 0} {a b : A} → Some a ≡ Some b → a ≡ b
the_some h = cc

module _ (env : Environment) where
  abbrev pub IsTyped : Use → Expr → Typed → Type 0
  IsTyped use' e x = HasType env use' e x.type x.code x.value

  abbrev AreChained : Use → ScalarType → Option Scalar → Operands → Chain → Type 0
  AreChained use' t v rest y = AreOperands env use' t v rest y.operations y.value

  -- selectors in a statement; behind a scalar there are none, whatever the use
  pub record Leads (use' : Use) (s : DataType) (rest : Selectors) (path : Path) : Type 0 where
    pub selects : use' ≡ InStatement → Selects env s rest path.type path.selectors
    pub none : is_simple s ≡ true → rest ≡ Tree.no_selector

  variable_told : (use' : Use) (name : Tree.Name) (selectors : Selectors) (slot : Program.Slot) (s : DataType) (path : Path) →
      meant env name.text ≡ AVariable slot s → value_broken use' (AVariable slot s) ≡ None → Leads use' s selectors path →
      Told (IsTyped use' (Tree.Named name selectors)) (ExpressionFails env use' (Tree.Named name selectors)) (named_value use' name.place (AVariable slot s) path)
  variable_told InStatement name selectors slot s path m ok leads =
      step_test (IsTyped InStatement (Tree.Named name selectors)) (ExpressionFails env InStatement (Tree.Named name selectors)) (is_simple path.type) TypesDiffer name.place _
      (λ simple. Expressions.variable (Expressions.of_slot m (subst (λ t. Selects env s selectors t path.selectors) (simple_is path.type simple) (leads.selects refl))))
      (λ structured. ExpressionFaults.structured (Expressions.of_slot m (leads.selects refl)) structured)
  variable_told InConstant name selectors slot s path m ok leads = absurd cc
  variable_told NotComputed name selectors slot s path m ok leads = absurd cc

  constant_told : (use' : Use) (name : Tree.Name) (selectors : Selectors) (v : Scalar) (path : Path) →
      meant env name.text ≡ AConstant v → selectors ≡ Tree.no_selector →
      Told (IsTyped use' (Tree.Named name selectors)) (ExpressionFails env use' (Tree.Named name selectors)) (named_value use' name.place (AConstant v) path)
  constant_told use' name selectors v path m none =
      subst (λ ss. HasType env use' (Tree.Named name ss) (type_of v) (Literal v) (known use' v)) (sym none) (Expressions.constant m)

  named_told : (use' : Use) (name : Tree.Name) (selectors : Selectors) (m : Meant) (s : DataType) (path : Path) →
      meant env name.text ≡ m → value_broken use' m ≡ None → type_meant m ≡ Some s → Leads use' s selectors path →
      Told (IsTyped use' (Tree.Named name selectors)) (ExpressionFails env use' (Tree.Named name selectors)) (named_value use' name.place m path)
  named_told use' name selectors Nothing s path m ok is leads = tt
  named_told use' name selectors (AConstant v) s path m ok is leads =
      constant_told use' name selectors v path m (leads.none (subst (λ r. is_simple r ≡ true) (the_some is) refl))
  named_told use' name selectors (AType t) s path m ok is leads = tt
  named_told use' name selectors (AVariable slot t) s path m ok is leads =
      variable_told use' name selectors slot t path m ok (subst (λ r. Leads use' r selectors path) (sym (the_some is)) leads)
  named_told use' name selectors FarVariable s path m ok is leads = tt
  named_told use' name selectors (AProcedure n ps) s path m ok is leads = tt

  inside_told : (e : Expr) (use' : Use) (place : ℕ) (v : Verdict Typed) → Told (IsTyped use' e) (ExpressionFails env use' e) v →
      Told (IsTyped use' (Tree.Parens place e)) (ExpressionFails env use' (Tree.Parens place e)) v
  inside_told e use' place (Right x) h = Expressions.parens h
  inside_told e use' place (Wrong f) h = ExpressionFaults.within_parens h
  inside_told e use' place Foreign h = tt

  sign_told : (use' : Use) (sign : Option Sign) (first : Expr) (rest : Operands) (x : Typed) → IsTyped use' first x →
      sign_fits sign x.type ≡ false → ExpressionFails env use' (Tree.Sum sign first rest) (broken TypesDiffer (sign_place sign))
  sign_told use' None first rest x h fits = absurd cc
  sign_told use' (Some sign) first rest x h fits = ExpressionFaults.sign h fits

  sign_traps_told : (use' : Use) (sign : Option Sign) (first : Expr) (rest : Operands) (x : Typed) (k : ℕ) → IsTyped use' first x →
      sign_fits sign x.type ≡ true → value_signed sign x.value ≡ Traps k → ExpressionFails env use' (Tree.Sum sign first rest) (broken BadConstant (sign_place sign))
  sign_traps_told use' None first rest x k h fits signs = absurd cc
  sign_traps_told use' (Some sign) first rest x k h fits signs = ExpressionFaults.sign_traps h fits signs

  mutual
    pub expression_told : (e : Expr) (use' : Use) → Told (IsTyped use' e) (ExpressionFails env use' e) (expression env e use')
    expression_told (Tree.Number z place) use' = Expressions.number
    expression_told (Tree.Named name selectors) use' =
        let R = IsTyped use' (Tree.Named name selectors) in
        let W = ExpressionFails env use' (Tree.Named name selectors) in
        step_unless R W (value_broken use' (meant env name.text)) name.place _
        (λ ok. step_need R W (type_meant (meant env name.text)) _ (λ s is.
        step R W (Leads use' s selectors) (SelectorsFail env use' s selectors) (selecting env selectors use' s) _ (selectors_told selectors use' s)
        (λ path leads. named_told use' name selectors (meant env name.text) s path refl ok is leads)
        (λ f k. ExpressionFaults.selectors ok is k)))
        (λ rule bad. ExpressionFaults.name bad)
    expression_told (Tree.Parens place e) use' = inside_told e use' place (expression env e use') (expression_told e use')
    expression_told (Tree.Not place e) use' =
        let R = IsTyped use' (Tree.Not place e) in
        let W = ExpressionFails env use' (Tree.Not place e) in
        step R W (IsTyped use' e) (ExpressionFails env use' e) (expression env e use') _ (expression_told e use')
        (λ x h. step_test R W (same_scalar_type x.type Boolean) TypesDiffer place _
        (λ b. Expressions.not (subst (λ t. HasType env use' e t x.code x.value) (is_boolean x.type b) h))
        (λ b. ExpressionFaults.not (subst (λ t. HasType env use' e t x.code x.value) (no_boolean x.type b) h)))
        (λ f h. ExpressionFaults.within_not h)
    expression_told (Tree.Product first rest) use' =
        let R = IsTyped use' (Tree.Product first rest) in
        let W = ExpressionFails env use' (Tree.Product first rest) in
        step R W (IsTyped use' first) (ExpressionFails env use' first) (expression env first use') _ (expression_told first use')
        (λ x h. step R W (AreChained use' x.type x.value rest) (OperandsFail env use' x.type x.value rest) (operands env rest use' x.type x.value) _
        (operands_told rest use' x.type x.value)
        (λ y k. Expressions.product h k) (λ f k. ExpressionFaults.other_factors h k))
        (λ f h. ExpressionFaults.first_factor h)
    expression_told (Tree.Sum sign first rest) use' =
        let R = IsTyped use' (Tree.Sum sign first rest) in
        let W = ExpressionFails env use' (Tree.Sum sign first rest) in
        step R W (IsTyped use' first) (ExpressionFails env use' first) (expression env first use') _ (expression_told first use')
        (λ x h. step_test R W (sign_fits sign x.type) TypesDiffer (sign_place sign) _
        (λ fits. step_result R W (value_signed sign x.value) (sign_place sign) _
        (λ v signs. step R W (AreChained use' x.type v rest) (OperandsFail env use' x.type v rest) (operands env rest use' x.type v) _
        (operands_told rest use' x.type v)
        (λ y k. Expressions.sum h fits signs k) (λ f k. ExpressionFaults.other_terms h fits signs k))
        (λ k signs. sign_traps_told use' sign first rest x k h fits signs))
        (λ fits. sign_told use' sign first rest x h fits))
        (λ f h. ExpressionFaults.first_term h)
    expression_told (Tree.Comparison left operator place e) use' =
        let R = IsTyped use' (Tree.Comparison left operator place e) in
        let W = ExpressionFails env use' (Tree.Comparison left operator place e) in
        step R W (IsTyped use' left) (ExpressionFails env use' left) (expression env left use') _ (expression_told left use')
        (λ x h. step R W (IsTyped use' e) (ExpressionFails env use' e) (expression env e use') _ (expression_told e use')
        (λ y k. step_need R W (relation_of operator) _ (λ o is.
        step_test R W (compares o x.type y.type) TypesDiffer place _
        (λ fits. Expressions.comparison h k is fits) (λ fits. ExpressionFaults.comparison h k is fits)))
        (λ f k. ExpressionFaults.right h k))
        (λ f h. ExpressionFaults.left h)

    pub operands_told : (rest : Operands) (use' : Use) (t : ScalarType) (v : Option Scalar) →
        Told (AreChained use' t v rest) (OperandsFail env use' t v rest) (operands env rest use' t v)
    operands_told Tree.no_operand use' t v = Expressions.no_operand
    operands_told (Tree.operand operator place e rest) use' t v =
        let R = AreChained use' t v (Tree.operand operator place e rest) in
        let W = OperandsFail env use' t v (Tree.operand operator place e rest) in
        step_need R W (operator_of operator) _ (λ o is.
        step R W (IsTyped (behind use' o v) e) (ExpressionFails env (behind use' o v) e) (expression env e (behind use' o v)) _ (expression_told e (behind use' o v))
        (λ x h. step_test R W (takes_both o t x.type) TypesDiffer place _
        (λ fits. step_result R W (value_behind o v x.value) place _
        (λ w goes. step R W (AreChained use' t w rest) (OperandsFail env use' t w rest) (operands env rest use' t w) _ (operands_told rest use' t w)
        (λ y k. Expressions.operand is h fits goes k) (λ f k. ExpressionFaults.others is h fits goes k))
        (λ k goes. ExpressionFaults.operator_traps is h fits goes))
        (λ fits. ExpressionFaults.operator is h fits))
        (λ f h. ExpressionFaults.operand is h))

    pub selectors_told : (rest : Selectors) (use' : Use) (s : DataType) →
        Told (Leads use' s rest) (SelectorsFail env use' s rest) (selecting env rest use' s)
    selectors_told Tree.no_selector use' s = record { selects = λ u. Expressions.itself; none = λ k. refl }
    selectors_told (Tree.field place name rest) use' s =
        let R = Leads use' s (Tree.field place name rest) in
        let W = SelectorsFail env use' s (Tree.field place name rest) in
        step_or_wrong R W (fields_of s) WrongKind place _
        (λ fields r. step_or_wrong R W (field_from 0 fields name.text) UnknownName name.place _
        (λ x f. step R W (Leads use' x.1 rest) (SelectorsFail env use' x.1 rest) (selecting env rest use' x.1) _ (selectors_told rest use' x.1)
        (λ path k. record { selects = λ u. Expressions.field r f (k.selects u); none = λ simple. no_fields s fields r simple })
        (λ g k. ExpressionFaults.behind_field r f k))
        (λ f. ExpressionFaults.no_field r f))
        (λ r. ExpressionFaults.no_record r)
    selectors_told (Tree.index place i rest) use' s =
        let R = Leads use' s (Tree.index place i rest) in
        let W = SelectorsFail env use' s (Tree.index place i rest) in
        step R W (IsTyped use' i) (ExpressionFails env use' i) (expression env i use') _ (expression_told i use')
        (λ x h. step_test R W (same_scalar_type x.type Integer) TypesDiffer (first_place i) _
        (λ b. let j : HasType env use' i Integer x.code x.value = subst (λ t. HasType env use' i t x.code x.value) (is_integer x.type b) h in
        step_or_wrong R W (elements_of s) WrongKind place _
        (λ y a. step R W (Leads use' y.1 rest) (SelectorsFail env use' y.1 rest) (selecting env rest use' y.1) _ (selectors_told rest use' y.1)
        (λ path k. record { selects = λ u. Expressions.index (subst (λ w. HasType env w i Integer x.code x.value) u j) a (k.selects u); none = λ simple. no_elements s y a simple })
        (λ g k. ExpressionFaults.behind_index j a k))
        (λ a. ExpressionFaults.no_array j a))
        (λ b. ExpressionFaults.index (subst (λ t. HasType env use' i t x.code x.value) (no_integer x.type b) h)))
        (λ f h. ExpressionFaults.within_index h)
