-- A constant has the value that its expression has in every store.
use Rattle.std.proofs.Common.{◌≡◌, refl, sym, ap, subst, Bool, true, false, Option, Some, None, if◌then◌else◌}
use Rattle.std.specs.Prelude.{option_map}
use Rattle.ob_grammar.specs.declared.tree.Sign.{Sign}
use Rattle.ob_grammar.specs.Tree.{Expr, Operands}
use Rattle.ob_interface.specs.declared.scalar.Scalar.{Scalar}
use Rattle.ob_interface.specs.declared.scalar.Scalar.TheVariants.{Int}
use Rattle.ob_interface.specs.declared.scalar.ScalarType.{ScalarType}
use Rattle.ob_typing.specs.declared.operator.BinaryOperator.{BinaryOperator}
use Rattle.ob_typing.specs.declared.operator.Relation.{Relation}
use Rattle.ob_typing.specs.Program.{Expression, Negated, Operations}
use Rattle.ob_typing.specs.Arithmetic.{Evaluated, Gives, Traps, ◌>>=◌, computed, decides, applied, negated, complement, compared}
use Rattle.ob_typing.specs.Scopes.{Environment}
use Rattle.ob_typing.specs.Expressions
use Rattle.ob_typing.specs.Expressions.{Use, InStatement, InConstant, NotComputed, known, behind, value_behind, with_sign, value_signed, value_compared, HasType, AreOperands}
use Rattle.ob_meaning.specs.ByNameStore.{Store}
use Rattle.ob_meaning.specs.ByNameEvaluation as Evaluation
use Rattle.ob_meaning.specs.ByNameEvaluation.{value_of}

-- what is not computed has no known value

known_not : (use' : Use) (v : Scalar) → use' ≡ NotComputed → known use' v ≡ None
known_not NotComputed v h = refl
known_not InStatement v h = refl
known_not InConstant v h = absurd cc

mapped_none : (v : Option Scalar) → v ≡ None → option_map complement v ≡ None
mapped_none None h = refl
mapped_none (Some x) h = absurd cc

behind_none : (o : BinaryOperator) (v u w : Option Scalar) → v ≡ None → value_behind o v u ≡ Gives w → w ≡ None
behind_none o None u w h k = cc
behind_none o (Some x) u w h k = absurd cc

signed_none : (sign : Option Sign) (u v : Option Scalar) → u ≡ None → value_signed sign u ≡ Gives v → v ≡ None
signed_none None None v h k = cc
signed_none (Some sign) None v h k = cc
signed_none None (Some x) v h k = absurd cc
signed_none (Some sign) (Some x) v h k = absurd cc

compared_none : (o : Relation) (v w : Option Scalar) → v ≡ None → value_compared o v w ≡ None
compared_none o None w h = refl
compared_none o (Some x) w h = absurd cc

module _ (env : Environment) where
  mutual
    unknown : {use' : Use} {e : Expr} {t : ScalarType} {c : Expression} {v : Option Scalar} →
        HasType env use' e t c v → use' ≡ NotComputed → v ≡ None
    unknown (Expressions.number {use' = use'} {z = z}) h = known_not use' (Int z) h
    unknown (Expressions.constant {use' = use'} {s = s} m) h = known_not use' s h
    unknown (Expressions.variable d) h = refl
    unknown (Expressions.parens k) h = unknown k h
    unknown (Expressions.not {v = v} k) h = mapped_none v (unknown k h)
    unknown (Expressions.product k l) h = unknown_chain l h (unknown k h)
    unknown (Expressions.sum {sign = sign} {u = u} {v = v} k fits signs l) h = unknown_chain l h (signed_none sign u v (unknown k h) signs)
    unknown (Expressions.comparison {o = o} {v = v} {w = w} k l is fits) h = compared_none o v w (unknown k h)

    unknown_chain : {use' : Use} {t : ScalarType} {v w : Option Scalar} {rest : Operands} {operations : Operations} →
        AreOperands env use' t v rest operations w → use' ≡ NotComputed → v ≡ None → w ≡ None
    unknown_chain Expressions.no_operand h e = e
    unknown_chain (Expressions.operand {o = o} {u = u} {v = v} {w = w} is k fits goes l) h e = unknown_chain l h (behind_none o v u w e goes)

-- a known value, which an evaluation gives as well
record Known (v : Option Scalar) (g : Evaluated Scalar) : Type 0 where
  scalar : Scalar
  known : v ≡ Some scalar
  gives : g ≡ Gives scalar

known_is : (use' : Use) (v : Scalar) → use' ≡ InConstant → known use' v ≡ Some v
known_is InConstant v h = refl
known_is InStatement v h = absurd cc
known_is NotComputed v h = absurd cc

both_compared : (o : Relation) (v w : Option Scalar) (x y : Scalar) → v ≡ Some x → w ≡ Some y → value_compared o v w ≡ Some (compared o x y)
both_compared o v w x y h k = rw h (rw k refl)

-- the value of a step that gives one
kept : (g : Evaluated Scalar) (w : Option Scalar) → ◌>>=◌ g (λ u. Gives (Some u)) ≡ Gives w → Known w g
kept (Gives x) w h = record { scalar = x; known = cc; gives = refl }
kept (Traps k) w h = absurd cc

decided : (o : BinaryOperator) (x : Scalar) (g : Evaluated Scalar) (u w : Option Scalar) (b : Bool) → decides o x ≡ b →
    value_behind o (Some x) u ≡ Gives w → (decides o x ≡ true → u ≡ None) → (decides o x ≡ false → Known u g) → Known w (applied o x g)
decided o x g u w true d goes none some =
    let k : value_behind o (Some x) None ≡ Gives w = subst (λ z. value_behind o (Some x) z ≡ Gives w) (none d) goes in
    record { scalar = x; known = cc; gives = rw d refl }
decided o x g u w false d goes none some =
    let y = some d in
    let k : value_behind o (Some x) (Some y.scalar) ≡ Gives w = subst (λ z. value_behind o (Some x) z ≡ Gives w) y.known goes in
    let z = kept (computed o x y.scalar) w k in
    let e : applied o x (Gives y.scalar) ≡ Gives z.scalar = rw d z.gives in
    record { scalar = z.scalar; known = z.known; gives = subst (λ f. applied o x f ≡ Gives z.scalar) (sym y.gives) e }

module _ (env : Environment) (store : Store) where
  signed_by : (minus : Bool) (b : Expression) (v : Option Scalar) (x : Scalar) → value_of store b ≡ Gives x →
      (if minus then ◌>>=◌ (negated x) (λ u. Gives (Some u)) else Gives (Some x)) ≡ Gives v →
      Known v (value_of store (if minus then Negated b else b))
  signed_by true b v x h k =
      let y = kept (negated x) v k in
      record { scalar = y.scalar; known = y.known; gives = rw h y.gives }
  signed_by false b v x h k = record { scalar = x; known = cc; gives = h }

  signed_known : (sign : Option Sign) (b : Expression) (v : Option Scalar) (x : Scalar) → value_of store b ≡ Gives x →
      value_signed sign (Some x) ≡ Gives v → Known v (value_of store (with_sign sign b))
  signed_known None b v x h k = record { scalar = x; known = cc; gives = h }
  signed_known (Some sign) b v x h k = signed_by sign.is_minus b v x h k

  mutual
    value_known : {use' : Use} {e : Expr} {t : ScalarType} {c : Expression} {v : Option Scalar} →
        HasType env use' e t c v → use' ≡ InConstant → Known v (value_of store c)
    value_known (Expressions.number {use' = use'} {z = z}) h = record { scalar = Int z; known = known_is use' (Int z) h; gives = refl }
    value_known (Expressions.constant {use' = use'} {s = s} m) h = record { scalar = s; known = known_is use' s h; gives = refl }
    value_known (Expressions.variable d) h = absurd cc
    value_known (Expressions.parens k) h = value_known k h
    value_known (Expressions.not k) h =
        let x = value_known k h in
        record { scalar = complement x.scalar; known = ap (option_map complement) x.known; gives = rw x.gives refl }
    value_known (Expressions.product k l) h =
        let x = value_known k h in
        let y = chain_known l h x.scalar x.known in
        record { scalar = y.scalar; known = y.known; gives = rw x.gives y.gives }
    value_known (Expressions.sum {sign = sign} {b = b} {v = v} k fits signs l) h =
        let x = value_known k h in
        let s = signed_known sign b v x.scalar x.gives (subst (λ z. value_signed sign z ≡ Gives v) x.known signs) in
        let y = chain_known l h s.scalar s.known in
        record { scalar = y.scalar; known = y.known; gives = rw s.gives y.gives }
    value_known (Expressions.comparison {o = o} k l is fits) h =
        let x = value_known k h in
        let y = value_known l h in
        record { scalar = compared o x.scalar y.scalar; known = both_compared o _ _ x.scalar y.scalar x.known y.known; gives = rw x.gives (rw y.gives refl) }

    chain_known : {use' : Use} {t : ScalarType} {v w : Option Scalar} {rest : Operands} {operations : Operations} →
        AreOperands env use' t v rest operations w → use' ≡ InConstant → (x : Scalar) → v ≡ Some x → Known w (Evaluation.value_behind store x operations)
    chain_known Expressions.no_operand h x e = record { scalar = x; known = e; gives = refl }
    chain_known (Expressions.operand {o = o} {c = c} {u = u} {v = v} {w = w} is k fits goes l) h x e =
        let n = decided o x (value_of store c) u w (decides o x) refl (subst (λ z. value_behind o z u ≡ Gives w) e goes)
        (λ d. unknown env k (rw e (rw d refl))) (λ d. value_known k (rw e (rw d h))) in
        let y = chain_known l h n.scalar n.known in
        record { scalar = y.scalar; known = y.known; gives = rw n.gives y.gives }

the_same : {x y : Scalar} → Some x ≡ Some y → x ≡ y
the_same h = cc

pub constant_is_value : (env : Environment) (e : Expr) (t : ScalarType) (c : Expression) (s : Scalar) (store : Store) →
    HasType env InConstant e t c (Some s) → value_of store c ≡ Gives s
constant_is_value env e t c s store h =
    let x = value_known env store h refl in
    subst (λ y. value_of store c ≡ Gives y) (sym (the_same x.known)) x.gives
