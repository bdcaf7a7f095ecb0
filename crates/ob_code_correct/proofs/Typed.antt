-- Well typed expressions and statements of a text are plain, by their nesting.
use Rattle.std.proofs.Common.{◌≡◌, ℕ, zero, suc, ◌+◌, ◌*◌, ◌<◌, ◌≤◌, Bool, true, false, List, [], ◌∷◌, ◌++◌, length, if◌then◌else◌, Option, Some, None, refl, sym, ap, ◌∙◌, subst, arith}
use Rattle.std.specs.Prelude.{◌&&◌, flat_map, nat_le}
use Rattle.std.proofs.lemmas.Bool.{and_parts}
use Rattle.std.proofs.lemmas.Bool.Decides.{nat_tests}
use Rattle.ob_interface.specs.declared.scalar.Scalar.{Scalar}
use Rattle.ob_interface.specs.declared.scalar.Scalar.TheVariants.{Int, Bool as Truth}
use Rattle.ob_interface.specs.declared.scalar.ScalarType.{ScalarType}
use Rattle.ob_interface.specs.declared.scalar.ScalarType.TheVariants.{Integer}
use Rattle.ob_grammar.specs.declared.tree.Sign.{Sign}
use Rattle.ob_grammar.specs.EndNamesAndNesting.{too_deep, opening, in_expr, in_operands, in_selectors, in_actuals, in_stmt, in_stmts, in_branches, in_otherwise, in_body}
use Rattle.ob_grammar.specs.Tree
use Rattle.ob_grammar.specs.Tree.{Expr, Operands, Stmt, Stmts, Branches, Otherwise}
use Rattle.ob_typing.specs.declared.operator.BinaryOperator.{BinaryOperator}
use Rattle.ob_typing.specs.declared.operator.BinaryOperator.TheVariants.{Plus, Minus, Times, Div, Mod, And, Or}
use Rattle.ob_typing.specs.declared.operator.Relation.{Relation}
use Rattle.ob_typing.specs.declared.operator.Relation.TheVariants.{Equal, NotEqual, Less, LessOrEqual, Greater, GreaterOrEqual}
use Rattle.ob_typing.specs.Program
use Rattle.ob_typing.specs.Program.{Expression, Negated, Operations, Designator, Actual, Statement, Statements, Parameter}
use Rattle.ob_typing.specs.Arithmetic.{type_of, takes, same_scalar_type, takes_both, compares}
use Rattle.ob_typing.specs.Scopes.{Environment, Meant, Nothing, AConstant, AType, AVariable, FarVariable, AProcedure, meant}
use Rattle.ob_typing.specs.Expressions as Typing
use Rattle.ob_typing.specs.Expressions.{Use, with_sign, sign_fits, HasType, AreOperands, IsVariable, Selects}
use Rattle.ob_typing.specs.Statements as Typed
use Rattle.ob_typing.specs.Statements.{listed, unless_constant, bare}
use Rattle.ob_meaning.proofs.ResolvedExpressions.{one_scalar_type}
use Rattle.ob_code_scheme.specs.Types.{IsScalarOf}
use Rattle.ob_code_scheme.specs.Temporaries.{behind_operator, temporaries, operations_temporaries, designator_temporaries, selectors_temporaries, actual_temporaries, actuals_temporaries}
use Rattle.ob_code_scheme.specs.WellFormed.{IsOn}
use Rattle.ob_code_scheme.specs.Correct.{IsInRange}
use Rattle.ob_code_correct.proofs.Shapes.{Shaped, ShapedOperands, ShapedSelectors, ShapedAll, ShapedActuals, ShapedStatement, ShapedStatements, ShapedBranches, ShapedOtherwise, ShapedBody}
use Rattle.ob_code_correct.proofs.Plain.{IsPlain, ArePlain, IsPlainDesignator, ArePlainSelectors, IsPlainActual, ArePlainActuals, IsPlainStatement, ArePlainStatements, ArePlainBranches}
use Rattle.ob_code_correct.proofs.Names.{AreSound, constant_sound}
use Rattle.ob_code_correct.proofs.Ranges.{IsInRangeIf, behind_in_range, signed_in_range, known_in_range, complement_in_range, compared_in_range}

-- ---- lists of breaches

pub both_none : {A : Type 0} (xs ys : List A) → xs ++ ys ≡ [] → (xs ≡ []) × (ys ≡ [])
both_none [] ys h = (refl, h)
both_none (x ∷ xs) ys h = absurd (cc)

opened_by : (b : Bool) (place : ℕ) → (if b then (too_deep place ∷ []) else []) ≡ [] → b ≡ false
opened_by true place h = absurd (cc)
opened_by false place h = refl

-- a construct that may open within n others, where k more may: within it one less may
pub record Deeper (n k : ℕ) : Type 0 where
  pub left : ℕ
  pub one_less : k ≡ suc left
  pub all : n + 1 + left ≡ 100

below_all : (n : ℕ) → nat_le 100 n ≡ false → n < 100
below_all n h = grind (arith, nat_tests)

less : (n k : ℕ) → n + k ≡ 100 → n < 100 → Deeper n k
less n zero all below = absurd (omega (arith, all, below))
less n (suc k) all below = record { left = k; one_less = refl; all = omega (arith, all) }

pub deeper : (n k place : ℕ) → n + k ≡ 100 → opening n place ≡ [] → Deeper n k
deeper n k place all h = less n k all (below_all n (opened_by (nat_le 100 n) place h))

-- ---- types

scalar_in : (s : Scalar) → IsInRange s → IsScalarOf (type_of s) s
scalar_in (Int z) h = h
scalar_in (Truth b) h = tt

both_taken : (o : BinaryOperator) (s t : ScalarType) → takes_both o s t ≡ true → (takes o ≡ s) × (t ≡ s)
both_taken o s t e =
    let parts = and_parts (same_scalar_type s (takes o)) (same_scalar_type t (takes o)) e in
    let left : s ≡ takes o = one_scalar_type s (takes o) parts.0 in
    (sym left, one_scalar_type t (takes o) parts.1 ∙ sym left)

both_integers : (s t : ScalarType) → (same_scalar_type s Integer && same_scalar_type t Integer) ≡ true → (t ≡ s) × (s ≡ Integer)
both_integers s t e =
    let parts = and_parts (same_scalar_type s Integer) (same_scalar_type t Integer) e in
    let left = one_scalar_type s Integer parts.0 in
    (one_scalar_type t Integer parts.1 ∙ sym left, left)

both_compared : (o : Relation) (s t : ScalarType) → compares o s t ≡ true → (t ≡ s) × IsOn o s
both_compared Equal s t e = (sym (one_scalar_type s t e), tt)
both_compared NotEqual s t e = (sym (one_scalar_type s t e), tt)
both_compared Less s t e = both_integers s t e
both_compared LessOrEqual s t e = both_integers s t e
both_compared Greater s t e = both_integers s t e
both_compared GreaterOrEqual s t e = both_integers s t e

signed_plain : (sign : Option Sign) (e : Expression) (t : ScalarType) → sign_fits sign t ≡ true → IsPlain e t → IsPlain (with_sign sign e) t
signed_plain None e t fits h = h
signed_plain (Some sign) e t fits h = by sign.is_minus (one_scalar_type t Integer fits)
  where
    by : (b : Bool) → t ≡ Integer → IsPlain (if b then Negated e else e) t
    by true is = (is, subst (λ (u : ScalarType). IsPlain e u) is h)
    by false is = h

signed_few : (sign : Option Sign) (e : Expression) → temporaries (with_sign sign e) ≡ temporaries e
signed_few None e = refl
signed_few (Some sign) e = by sign.is_minus
  where
    by : (b : Bool) → temporaries (if b then Negated e else e) ≡ temporaries e
    by true = refl
    by false = refl

behind_few : (o : BinaryOperator) (n : ℕ) → behind_operator o n ≤ 1 + n
behind_few Plus n = omega arith
behind_few Minus n = omega arith
behind_few Times n = omega arith
behind_few Div n = omega arith
behind_few Mod n = omega arith
behind_few And n = omega arith
behind_few Or n = omega arith

abbrev Bare : Type 0
Bare = Option (Tree.Name × Tree.Selectors)

pub same_selectors : (a b : Tree.Name) (s r : Tree.Selectors) → ◌≡◌ {A = Bare} (Some (a, s)) (Some (b, r)) → s ≡ r
same_selectors a b s r e = ap selectors_in e
  where
    selectors_in : Bare → Tree.Selectors
    selectors_in None = s
    selectors_in (Some x) = x.1

-- ---- expressions

-- of an expression of this rank within n constructs, where k more may open
pub record IsGood (k rank : ℕ) (c : Expression) (t : ScalarType) (v : Option Scalar) : Type 0 where
  pub plain : IsPlain c t
  pub few : temporaries c ≤ rank + 1 + 4 * k
  pub value : IsInRangeIf v

record AreGood (k rank : ℕ) (operations : Operations) (t : ScalarType) (v : Option Scalar) : Type 0 where
  pub plain : ArePlain operations t
  pub few : operations_temporaries operations ≤ 2 + rank + 4 * k
  pub value : IsInRangeIf v

module _ (env : Environment) (sound : AreSound env) where
  mutual
    pub typed : {use' : Use} {e : Expr} {t : ScalarType} {c : Expression} {v : Option Scalar} → HasType env use' e t c v →
        (n k rank : ℕ) → n + k ≡ 100 → in_expr n e ≡ [] → Shaped rank e → IsGood k rank c t v
    typed (Typing.number {use' = use'} {z = z}) n k rank all none h = record { plain = h; few = omega arith; value = known_in_range use' (Int z) h }
    typed (Typing.constant {use' = use'} {name = name} {s = s} m) n k rank all none h =
        let range = constant_sound env name.text s sound m in
        record { plain = scalar_in s range; few = omega arith; value = known_in_range use' s range }
    typed (Typing.variable h) n k rank all none shape =
        let d = placed h n k all none shape in
        record { plain = (refl, d.0); few = omega (arith, d.1); value = tt }
    typed (Typing.parens {place = place} {e = e} h) n k rank all none shape =
        let parts = both_none (opening n place) (in_expr (n + 1) e) none in
        let down = deeper n k place all parts.0 in
        let x = typed h (n + 1) down.left 3 down.all parts.1 shape in
        record { plain = x.plain; few = omega (arith, x.few, down.one_less); value = x.value }
    typed (Typing.not {place = place} {e = e} {v = v} h) n k rank all none shape =
        let parts = both_none (opening n place) (in_expr (n + 1) e) none in
        let down = deeper n k place all parts.0 in
        let x = typed h (n + 1) down.left 0 down.all parts.1 shape in
        record { plain = (refl, x.plain); few = omega (arith, x.few, down.one_less); value = complement_in_range v }
    typed (Typing.product {first = first} {rest = rest} h operands_typed) n k rank all none shape =
        let parts = both_none (in_expr n first) (in_operands n rest) none in
        let x = typed h n k 0 all parts.0 shape.1 in
        let y = operands operands_typed n k 0 all parts.1 shape.2 x.value in
        record { plain = (x.plain, y.plain); few = omega (arith, x.few, y.few, shape.0); value = y.value }
    typed (Typing.sum {sign = sign} {first = first} {rest = rest} {t = t} {b = b} {u = u} {v = v} h fits is operands_typed) n k rank all none shape =
        let parts = both_none (in_expr n first) (in_operands n rest) none in
        let x = typed h n k 1 all parts.0 shape.1 in
        let y = operands operands_typed n k 1 all parts.1 shape.2 (signed_in_range sign u v x.value is) in
        let same = signed_few sign b in
        record { plain = (signed_plain sign b t fits x.plain, y.plain); few = omega (arith, x.few, y.few, shape.0, same); value = y.value }
    typed (Typing.comparison {left = left} {right = right} {s = s} {t = t} {o = o} {c = c} {v = v} {w = w} h k' is fits) n k rank all none shape =
        let parts = both_none (in_expr n left) (in_expr n right) none in
        let x = typed h n k 2 all parts.0 shape.1 in
        let y = typed k' n k 2 all parts.1 shape.2 in
        let both = both_compared o s t fits in
        record { plain = (refl, (s, both.1, x.plain, subst (λ (r : ScalarType). IsPlain c r) both.0 y.plain)); few = omega (arith, x.few, y.few, shape.0); value = compared_in_range o v w }

    operands : {use' : Use} {t : ScalarType} {v : Option Scalar} {rest : Operands} {operations : Operations} {w : Option Scalar} → AreOperands env use' t v rest operations w →
        (n k rank : ℕ) → n + k ≡ 100 → in_operands n rest ≡ [] → ShapedOperands rank rest → IsInRangeIf v → AreGood k rank operations t w
    operands Typing.no_operand n k rank all none shape value = record { plain = tt; few = omega arith; value = value }
    operands (Typing.operand {o = o} {e = e} {rest = rest} {s = s} {t = t} {c = c} {u = u} {v = v} {w = w} is h fits gives later) n k rank all none shape value =
        let parts = both_none (in_expr n e) (in_operands n rest) none in
        let x = typed h n k rank all parts.0 shape.0 in
        let y = operands later n k rank all parts.1 shape.1 (behind_in_range o v u w value gives) in
        let both = both_taken o t s fits in
        let here = behind_few o (temporaries c) in
        record { plain = (both.0, subst (λ (r : ScalarType). IsPlain c r) both.1 x.plain, y.plain); few = omega (arith, x.few, y.few, here); value = y.value }

    pub placed : {name : Tree.Name} {selectors : Tree.Selectors} {t : _} {d : Designator} → IsVariable env name selectors t d →
        (n k : ℕ) → n + k ≡ 100 → in_selectors n selectors ≡ [] → ShapedSelectors selectors → IsPlainDesignator d × (designator_temporaries d ≤ 1 + 4 * k)
    placed (Typing.of_slot m h) n k all none shape =
        let x = leads h n k all none shape in (x.0, omega (arith, x.1))

    leads : {s : _} {selectors : Tree.Selectors} {t : _} {path : Program.Selectors} → Selects env s selectors t path →
        (n k : ℕ) → n + k ≡ 100 → in_selectors n selectors ≡ [] → ShapedSelectors selectors → ArePlainSelectors path × (selectors_temporaries path ≤ 1 + 4 * k)
    leads Typing.itself n k all none shape = (tt, omega arith)
    leads (Typing.field e f h) n k all none shape = leads h n k all none shape
    leads (Typing.index {place = place} {i = i} {rest = rest} h e later) n k all none shape =
        let parts = both_none (opening n place ++ in_expr (n + 1) i) (in_selectors n rest) none in
        let inner = both_none (opening n place) (in_expr (n + 1) i) parts.0 in
        let down = deeper n k place all inner.0 in
        let x = typed h (n + 1) down.left 3 down.all inner.1 shape.0 in
        let y = leads later n k all parts.1 shape.1 in
        ((x.plain, y.0), omega (arith, x.few, y.1, down.one_less))

  -- ---- statements

  bare_same : (m : Meant) (a b : Tree.Name) (s r : Tree.Selectors) → unless_constant m a s ≡ Some (b, r) → s ≡ r
  bare_same Nothing a b s r e = same_selectors a b s r e
  bare_same (AConstant value) a b s r e = absurd (cc)
  bare_same (AType type) a b s r e = same_selectors a b s r e
  bare_same (AVariable slot type) a b s r e = same_selectors a b s r e
  bare_same FarVariable a b s r e = same_selectors a b s r e
  bare_same (AProcedure number parameters) a b s r e = same_selectors a b s r e

  bare_parts : (n : ℕ) (e : Expr) (name : Tree.Name) (selectors : Tree.Selectors) → bare env e ≡ Some (name, selectors) → in_expr n e ≡ [] → Shaped 3 e → (in_selectors n selectors ≡ []) × ShapedSelectors selectors
  bare_parts n (Tree.Named other own) name selectors is none shape =
      let same = bare_same (meant env other.text) other name own selectors is in
      (subst (λ (s : Tree.Selectors). in_selectors n s ≡ []) same none, subst ShapedSelectors same shape)
  bare_parts n (Tree.Number z place) name selectors is none shape = absurd (cc)
  bare_parts n (Tree.Parens place inner) name selectors is none shape = absurd (cc)
  bare_parts n (Tree.Not place e) name selectors is none shape = absurd (cc)
  bare_parts n (Tree.Product first rest) name selectors is none shape = absurd (cc)
  bare_parts n (Tree.Sum sign first rest) name selectors is none shape = absurd (cc)
  bare_parts n (Tree.Comparison left operator place right) name selectors is none shape = absurd (cc)

  -- within n constructs, where k more may open, no expression holds more words than this bound
  module _ (bound : ℕ) where
    actual : {p : Parameter} {e : Expr} {c : Actual} → Typed.IsActual env p e c → (n k : ℕ) → n + k ≡ 100 → 4 + 4 * k ≤ bound → in_expr n e ≡ [] → Shaped 3 e →
        IsPlainActual c × (actual_temporaries c ≤ bound)
    actual (Typed.value {t = t} v h fits) n k all small none shape =
        let x = typed h n k 3 all none shape in ((t, x.plain), omega (arith, x.few, small))
    actual (Typed.place {e = e} {name = name} {selectors = selectors} v is h same) n k all small none shape =
        let parts = bare_parts n e name selectors is none shape in
        let x = placed h n k all parts.0 parts.1 in
        (x.0, omega (arith, x.1, small))

    actuals : {ps : List Parameter} {es : List Expr} {cs : List Actual} → Typed.Fits env ps es cs → (n k : ℕ) → n + k ≡ 100 → 4 + 4 * k ≤ bound → flat_map (in_expr n) es ≡ [] → ShapedAll es →
        ArePlainActuals cs × (actuals_temporaries cs + 1 ≤ length cs + bound)
    actuals Typed.none n k all small none shape = (tt, omega (arith, small))
    actuals (Typed.more {e = e} {es = es} h rest) n k all small none shape =
        let parts = both_none (in_expr n e) (flat_map (in_expr n) es) none in
        let x = actual h n k all small parts.0 shape.0 in
        let y = actuals rest n k all small parts.1 shape.1 in
        ((x.0, y.0), omega (arith, x.1, y.1))

    all_actuals : (es : Option (List Expr)) {ps : List Parameter} {cs : List Actual} → Typed.Fits env ps (listed es) cs → (n k : ℕ) → n + k ≡ 100 → 4 + 4 * k ≤ bound → in_actuals n es ≡ [] → ShapedActuals es →
        ArePlainActuals cs × (actuals_temporaries cs + 1 ≤ length cs + bound)
    all_actuals None h n k all small none shape = actuals h n k all small refl tt
    all_actuals (Some es) h n k all small none shape = actuals h n k all small none shape

    mutual
      one_statement : {s : Stmt} {c : Statement} → Typed.IsStatement env s c → (n k : ℕ) → n + k ≡ 100 → 4 + 4 * k ≤ bound → in_stmt n s ≡ [] → ShapedStatement s → IsPlainStatement bound c
      one_statement (Typed.assign {selectors = selectors} {e = e} {t = t} h v same) n k all small none shape =
          let parts = both_none (in_selectors n selectors) (in_expr n e) none in
          let x = placed h n k all parts.0 shape.0 in
          let y = typed v n k 3 all parts.1 shape.1 in
          (x.0, (t, y.plain), omega (arith, x.1, small), omega (arith, y.few, small))
      one_statement (Typed.call {actuals = es} m count h) n k all small none shape = all_actuals es h n k all small none shape
      one_statement (Typed.if' {place = place} {branches = branches} {otherwise = otherwise} h) n k all small none shape =
          let parts = both_none (opening n place) (in_branches (n + 1) branches ++ in_otherwise (n + 1) otherwise) none in
          let down = deeper n k place all parts.0 in
          let inner = both_none (in_branches (n + 1) branches) (in_otherwise (n + 1) otherwise) parts.1 in
          all_branches h (n + 1) down.left down.all (omega (arith, small, down.one_less)) inner.0 inner.1 shape.0 shape.1
      one_statement (Typed.while {place = place} {condition = condition} {body = body} v h) n k all small none shape =
          let parts = both_none (opening n place) (in_expr (n + 1) condition ++ in_stmts (n + 1) body) none in
          let down = deeper n k place all parts.0 in
          let inner = both_none (in_expr (n + 1) condition) (in_stmts (n + 1) body) parts.1 in
          let x = typed v (n + 1) down.left 3 down.all inner.0 shape.0 in
          (x.plain, omega (arith, x.few, small, down.one_less), statements h (n + 1) down.left down.all (omega (arith, small, down.one_less)) inner.1 shape.1)
      one_statement (Typed.repeat {place = place} {body = body} {condition = condition} h v) n k all small none shape =
          let parts = both_none (opening n place) (in_stmts (n + 1) body ++ in_expr (n + 1) condition) none in
          let down = deeper n k place all parts.0 in
          let inner = both_none (in_stmts (n + 1) body) (in_expr (n + 1) condition) parts.1 in
          let x = typed v (n + 1) down.left 3 down.all inner.1 shape.1 in
          (statements h (n + 1) down.left down.all (omega (arith, small, down.one_less)) inner.0 shape.0, x.plain, omega (arith, x.few, small, down.one_less))

      statements : {ss : Stmts} {cs : Statements} → Typed.AreStatements env ss cs → (n k : ℕ) → n + k ≡ 100 → 4 + 4 * k ≤ bound → in_stmts n ss ≡ [] → ShapedStatements ss → ArePlainStatements bound cs
      statements Typed.no_statement n k all small none shape = tt
      statements (Typed.empty h) n k all small none shape = statements h n k all small none shape.1
      statements (Typed.more {s = s} {rest = rest} h later) n k all small none shape =
          let parts = both_none (in_stmt n s) (in_stmts n rest) none in
          (one_statement h n k all small parts.0 shape.0, statements later n k all small parts.1 shape.1)

      all_branches : {bs : Branches} {o : Otherwise} {cs : Program.Branches} → Typed.AreBranches env bs o cs → (n k : ℕ) → n + k ≡ 100 → 4 + 4 * k ≤ bound → in_branches n bs ≡ [] → in_otherwise n o ≡ [] →
          ShapedBranches bs → ShapedOtherwise o → ArePlainBranches bound cs
      all_branches Typed.no_else n k all small none last shape end = tt
      all_branches (Typed.otherwise h) n k all small none last shape end = statements h n k all small last end
      all_branches (Typed.branch {condition = condition} {body = body} {rest = rest} v h later) n k all small none last shape end =
          let parts = both_none (in_expr n condition ++ in_stmts n body) (in_branches n rest) none in
          let inner = both_none (in_expr n condition) (in_stmts n body) parts.0 in
          let x = typed v n k 3 all inner.0 shape.0 in
          (x.plain, omega (arith, x.few, small), statements h n k all small inner.1 shape.1, all_branches later n k all small parts.1 last shape.2 end)

    pub body : {x : Option Stmts} {ss : Statements} → Typed.IsBody env x ss → (n k : ℕ) → n + k ≡ 100 → 4 + 4 * k ≤ bound → in_body n x ≡ [] → ShapedBody x → ArePlainStatements bound ss
    body Typed.none n k all small none shape = tt
    body (Typed.some h) n k all small none shape = statements h n k all small none shape
