-- A well typed expression is resolved.
use Rattle.std.proofs.Common.{◌≡◌, refl, ap, sym, subst, ◌∙◌, arith, ℕ, suc, ◌+◌, Bool, true, false, List, bytes_eq, if◌then◌else◌, Option, Some, None}
use Rattle.std.specs.Prelude.{◌&&◌}
use Rattle.std.proofs.lemmas.Bool.{and_parts}
use Rattle.ob_grammar.specs.declared.tree.Sign.{Sign}
use Rattle.ob_grammar.specs.Tree
use Rattle.ob_grammar.specs.Tree.{Expr, Operands}
use Rattle.ob_interface.specs.declared.scalar.Scalar.{Scalar}
use Rattle.ob_interface.specs.declared.scalar.ScalarType.{ScalarType}
use Rattle.ob_interface.specs.declared.scalar.ScalarType.TheVariants.{Integer, Boolean}
use Rattle.ob_typing.specs.declared.operator.BinaryOperator.{BinaryOperator}
use Rattle.ob_typing.specs.declared.operator.Relation.{Relation}
use Rattle.ob_typing.specs.declared.operator.Relation.TheVariants as Relations
use Rattle.ob_typing.specs.Program.{Name, DataType, Simple, Array, Record, Fields, no_field, field, Expression, Negated, Operations, Designator, Selectors, Parameter, Procedure}
use Rattle.ob_typing.specs.Arithmetic.{takes, same_scalar_type, takes_both, compares}
use Rattle.ob_typing.specs.Scopes.{Environment, fields_of, elements_of, field_from}
use Rattle.ob_typing.specs.Expressions as Typing
use Rattle.ob_typing.specs.Expressions.{Use, with_sign, sign_fits, HasType, AreOperands, Selects}
use Rattle.ob_meaning.specs.Resolved.{IsFieldAt, HasField, HasElements, IsOf, AreOf, IsVariable, Lead}
use Rattle.ob_meaning.proofs.Known.{Knows, variable_meant}

-- what tests of types say

pub one_scalar_type : (s t : ScalarType) → same_scalar_type s t ≡ true → s ≡ t
one_scalar_type Integer Integer e = refl
one_scalar_type Integer Boolean e = absurd cc
one_scalar_type Boolean Integer e = absurd cc
one_scalar_type Boolean Boolean e = refl

both_taken : (o : BinaryOperator) (s t : ScalarType) → takes_both o s t ≡ true → (takes o ≡ s) × (t ≡ s)
both_taken o s t e =
    let parts = and_parts (same_scalar_type s (takes o)) (same_scalar_type t (takes o)) e in
    let left : s ≡ takes o = one_scalar_type s (takes o) parts.0 in
    (sym left, one_scalar_type t (takes o) parts.1 ∙ sym left)

both_integers : (s t : ScalarType) → (same_scalar_type s Integer && same_scalar_type t Integer) ≡ true → t ≡ s
both_integers s t e =
    let parts = and_parts (same_scalar_type s Integer) (same_scalar_type t Integer) e in
    one_scalar_type t Integer parts.1 ∙ sym (one_scalar_type s Integer parts.0)

both_compared : (o : Relation) (s t : ScalarType) → compares o s t ≡ true → t ≡ s
both_compared Relations.Equal s t e = sym (one_scalar_type s t e)
both_compared Relations.NotEqual s t e = sym (one_scalar_type s t e)
both_compared Relations.Less s t e = both_integers s t e
both_compared Relations.LessOrEqual s t e = both_integers s t e
both_compared Relations.Greater s t e = both_integers s t e
both_compared Relations.GreaterOrEqual s t e = both_integers s t e

-- fields and elements

some_fields : (fs gs : Fields) → Some fs ≡ Some gs → fs ≡ gs
some_fields fs gs e = cc

abbrev Placed : Type 0
Placed = Option (ℕ × DataType)

field_place : (n i : ℕ) (s t : DataType) → ◌≡◌ {A = Placed} (Some (n, s)) (Some (i, t)) → (n ≡ i) × (s ≡ t)
field_place n i s t e = (ap position_in e, ap type_in e)
  where
    position_in : Placed → ℕ
    position_in None = 0
    position_in (Some p) = p.0

    type_in : Placed → DataType
    type_in None = s
    type_in (Some p) = p.1

field_if : (n : ℕ) (other : Name) (type : DataType) (rest : Fields) (name : Name) (i : ℕ) (t : DataType) (b : Bool) → bytes_eq other name ≡ b →
    (field_from (suc n) rest name ≡ Some (i, t) → (k : ℕ) × ((i ≡ suc n + k) × IsFieldAt rest name k t)) →
    (if b then Some (n, type) else field_from (suc n) rest name) ≡ Some (i, t) → (k : ℕ) × ((i ≡ n + k) × IsFieldAt (field other type rest) name k t)
field_if n other type rest name i t true same further e =
    let place = field_place n i type t e in
    let here : n ≡ i = place.0 in
    let first : i ≡ n + 0 = omega (arith, here) in
    (0, (first, (same, place.1)))
field_if n other type rest name i t false differs further e =
    let (k, (is, at)) = further e in
    let behind : i ≡ n + suc k = omega (arith, is) in
    (suc k, (behind, (differs, at)))

field_here : (n : ℕ) (fs : Fields) (name : Name) (i : ℕ) (t : DataType) → field_from n fs name ≡ Some (i, t) → (k : ℕ) × ((i ≡ n + k) × IsFieldAt fs name k t)
field_here n no_field name i t e = absurd cc
field_here n (field other type rest) name i t e =
    field_if n other type rest name i t (bytes_eq other name) refl (λ h. field_here (suc n) rest name i t h) e

field_at : (fs : Fields) (name : Name) (i : ℕ) (t : DataType) → field_from 0 fs name ≡ Some (i, t) → IsFieldAt fs name i t
field_at fs name i t e =
    let (k, (is, at)) = field_here 0 fs name i t e in
    let same : k ≡ i = omega (arith, is) in
    subst (λ x. IsFieldAt fs name x t) same at

has_field : (r : DataType) (fs : Fields) (name : Name) (i : ℕ) (t : DataType) → fields_of r ≡ Some fs → field_from 0 fs name ≡ Some (i, t) → HasField r name i t
has_field (Simple s) fs name i t e f = absurd cc
has_field (Array place n element) fs name i t e f = absurd cc
has_field (Record place gs) fs name i t e f = field_at gs name i t (ap (λ x. field_from 0 x name) (some_fields gs fs e) ∙ f)

has_elements : (a : DataType) (n : ℕ) (t : DataType) → elements_of a ≡ Some (n, t) → HasElements a n t
has_elements (Simple s) n t e = absurd cc
has_elements (Array place m element) n t e = field_place m n element t e
has_elements (Record place gs) n t e = absurd cc

-- expressions

module _ (outer : List Parameter) (procedures : List Procedure) (own : List Parameter) (env : Environment) (known : Knows outer procedures own env) where
  signed : (sign : Option Sign) (e : Expression) (t : ScalarType) → sign_fits sign t ≡ true → IsOf outer own e t → IsOf outer own (with_sign sign e) t
  signed None e t fits h = h
  signed (Some sign) e t fits h = signed_if sign.is_minus (one_scalar_type t Integer fits)
    where
      signed_if : (b : Bool) → t ≡ Integer → IsOf outer own (if b then Negated e else e) t
      signed_if true is = (is, subst (λ u. IsOf outer own e u) is h)
      signed_if false is = h

  mutual
    pub typed : {use' : Use} {e : Expr} {t : ScalarType} {c : Expression} {v : Option Scalar} → HasType env use' e t c v → IsOf outer own c t
    typed Typing.number = refl
    typed (Typing.constant m) = refl
    typed (Typing.variable h) = (refl, placed h)
    typed (Typing.parens h) = typed h
    typed (Typing.not h) = (refl, typed h)
    typed (Typing.product h k) = (typed h, operands k)
    typed (Typing.sum {sign = sign} {t = t} {b = b} h fits v k) = (signed sign b t fits (typed h), operands k)
    typed (Typing.comparison {s = s} {t = t} {o = o} {c = c} h k r fits) =
        (refl, (s, (typed h, subst (λ u. IsOf outer own c u) (both_compared o s t fits) (typed k))))

    operands : {use' : Use} {t : ScalarType} {v : Option Scalar} {rest : Operands} {operations : Operations} {w : Option Scalar} → AreOperands env use' t v rest operations w →
        AreOf outer own operations t
    operands Typing.no_operand = tt
    operands (Typing.operand {o = o} {s = s} {t = t} {c = c} is h takes v k) =
        let both = both_taken o t s takes in
        (both.0, (subst (λ u. IsOf outer own c u) both.1 (typed h), operands k))

    pub placed : {name : Tree.Name} {selectors : Tree.Selectors} {t : DataType} {d : Designator} → Typing.IsVariable env name selectors t d → IsVariable outer own d t
    placed (Typing.of_slot {name = name} {slot = slot} {s = s} {t = t} {path = path} m h) =
        let (p, (at, type)) = variable_meant outer procedures own env known name.text slot s m in
        (p, (at, subst (λ u. Lead outer own u path t) (sym type) (leads h)))

    leads : {s : DataType} {selectors : Tree.Selectors} {t : DataType} {path : Selectors} → Selects env s selectors t path → Lead outer own s path t
    leads Typing.itself = refl
    leads (Typing.field {position = i} {name = name} {fields = fs} {r = r} {s = s} e f h) = (s, (has_field r fs name.text i s e f, leads h))
    leads (Typing.index {length = n} {a = a} {element = element} h e k) = (element, (has_elements a n element e, (typed h, leads k)))
