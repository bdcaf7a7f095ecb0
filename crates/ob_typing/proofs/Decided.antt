-- A verdict that is there: what is right has a fact, and no tree of a text is foreign.
use Rattle.std.proofs.Common.{◌≡◌, refl, sym, subst, Bool, true, false, ℕ, Option, Some, None, is_some, if◌then◌else◌}
use Rattle.ob_grammar.specs.Tree
use Rattle.ob_interface.specs.declared.scalar.Scalar.{Scalar}
use Rattle.ob_typing.specs.declared.operator.BinaryOperator.{BinaryOperator}
use Rattle.ob_typing.specs.declared.operator.Relation.{Relation}
use Rattle.ob_typing.specs.declared.rule.Rule.{Rule}
use Rattle.ob_typing.specs.declared.rule.BrokenRule.{BrokenRule}
use Rattle.ob_grammar.specs.declared.tree.Sign.{Sign}
use Rattle.ob_typing.specs.Arithmetic as Arithmetic
use Rattle.ob_typing.specs.Arithmetic.{Evaluated, Gives, Traps, complement, computed}
use Rattle.std.specs.Prelude.{option_map}
use Rattle.ob_typing.specs.Expressions.{Use, InStatement, InConstant, NotComputed, known, value_behind, value_signed, value_compared}
use Rattle.ob_typing.specs.Verdict.{Verdict, Right, Wrong, Foreign, ◌>>=◌, need, or_wrong, test, unless, unless_name, unless_broken, result}

abbrev pub Has : {A : Type 0} → (A → Type 0) → Verdict A → Type 0
Has P (Right a) = P a
Has P (Wrong f) = Unit {0}
Has P Foreign = ⊥

abbrev pub Any : {A : Type 0} → A → Type 0
Any a = Unit {0}

module _ {B : Type 0} (Q : B → Type 0) where
  pub has_step : {A : Type 0} (P : A → Type 0) (v : Verdict A) (go : A → Verdict B) → Has P v → ((a : A) → P a → Has Q (go a)) → Has Q (◌>>=◌ v go)
  has_step P (Right a) go h k = k a h
  has_step P (Wrong f) go h k = tt
  has_step P Foreign go h k = absurd h

  pub has_need : {A : Type 0} (o : Option A) (a : A) (go : A → Verdict B) → o ≡ Some a → Has Q (go a) → Has Q (◌>>=◌ (need o) go)
  has_need o a go e h = subst (λ x. Has Q (◌>>=◌ (need x) go)) (sym e) h

  pub has_or_wrong : {A : Type 0} (o : Option A) (rule : Rule) (place : ℕ) (go : A → Verdict B) → ((a : A) → o ≡ Some a → Has Q (go a)) → Has Q (◌>>=◌ (or_wrong o rule place) go)
  has_or_wrong (Some a) rule place go k = k a refl
  has_or_wrong None rule place go k = tt

  pub has_test : (b : Bool) (rule : Rule) (place : ℕ) (go : Unit {0} → Verdict B) → (b ≡ true → Has Q (go tt)) → Has Q (◌>>=◌ (test b rule place) go)
  has_test true rule place go k = k refl
  has_test false rule place go k = tt

  pub has_unless : (o : Option Rule) (place : ℕ) (go : Unit {0} → Verdict B) → (o ≡ None → Has Q (go tt)) → Has Q (◌>>=◌ (unless o place) go)
  has_unless None place go k = k refl
  has_unless (Some rule) place go k = tt

  pub has_unless_name : (o : Option Tree.Name) (rule : Rule) (go : Unit {0} → Verdict B) → Has Q (go tt) → Has Q (◌>>=◌ (unless_name o rule) go)
  has_unless_name None rule go k = k
  has_unless_name (Some name) rule go k = tt

  pub has_unless_broken : (o : Option BrokenRule) (go : Unit {0} → Verdict B) → Has Q (go tt) → Has Q (◌>>=◌ (unless_broken o) go)
  has_unless_broken None go k = k
  has_unless_broken (Some fault) go k = tt

  pub has_result : {A : Type 0} (v : Evaluated A) (place : ℕ) (go : A → Verdict B) → ((a : A) → v ≡ Gives a → Has Q (go a)) → Has Q (◌>>=◌ (result v place) go)
  has_result (Gives a) place go k = k a refl
  has_result (Traps n) place go k = tt

-- in a constant expression a value is known
abbrev pub KnownIn : Use → Option Scalar → Type 0
KnownIn InConstant v = is_some v ≡ true
KnownIn InStatement v = Unit {0}
KnownIn NotComputed v = Unit {0}

pub known_in : (use' : Use) (s : Scalar) → KnownIn use' (known use' s)
known_in InConstant s = refl
known_in InStatement s = tt
known_in NotComputed s = tt

-- what keeps that a value is known
kept_in : (use' : Use) (v w : Option Scalar) → (is_some v ≡ true → is_some w ≡ true) → KnownIn use' v → KnownIn use' w
kept_in InConstant v w k h = k h
kept_in InStatement v w k h = tt
kept_in NotComputed v w k h = tt

mapped : (f : Scalar → Scalar) (v : Option Scalar) → is_some v ≡ true → is_some (option_map f v) ≡ true
mapped f (Some s) h = refl
mapped f None h = absurd cc

pub complement_known : (use' : Use) (v : Option Scalar) → KnownIn use' v → KnownIn use' (option_map complement v)
complement_known use' v h = kept_in use' v (option_map complement v) (mapped complement v) h

given : (v w : Option Scalar) → Gives v ≡ Gives w → is_some v ≡ true → is_some w ≡ true
given v w e h = let same : v ≡ w = cc in subst (λ x. is_some x ≡ true) same h

computed_known : (n : Evaluated Scalar) (w : Option Scalar) → Arithmetic.◌>>=◌ n (λ u. Gives (Some u)) ≡ Gives w → is_some w ≡ true
computed_known (Gives u) w e = given (Some u) w e refl
computed_known (Traps k) w e = absurd cc

signed_some : (sign : Option Sign) (u v : Option Scalar) → value_signed sign u ≡ Gives v → is_some u ≡ true → is_some v ≡ true
signed_some sign None v e h = absurd cc
signed_some None (Some s) v e h = given (Some s) v e refl
signed_some (Some sign) (Some s) v e h = by sign.is_minus e
  where
    by : (b : Bool) → (if b then Arithmetic.◌>>=◌ (Arithmetic.negated s) (λ u. Gives (Some u)) else Gives (Some s)) ≡ Gives v → is_some v ≡ true
    by true k = computed_known (Arithmetic.negated s) v k
    by false k = given (Some s) v k refl

pub signed_known : (use' : Use) (sign : Option Sign) (u v : Option Scalar) → value_signed sign u ≡ Gives v → KnownIn use' u → KnownIn use' v
signed_known use' sign u v e h = kept_in use' u v (signed_some sign u v e) h

behind_some : (o : BinaryOperator) (v u w : Option Scalar) → value_behind o v u ≡ Gives w → is_some v ≡ true → is_some w ≡ true
behind_some o None u w e h = absurd cc
behind_some o (Some v) None w e h = given (Some v) w e refl
behind_some o (Some v) (Some u) w e h = computed_known (computed o v u) w e

pub behind_known : (use' : Use) (o : BinaryOperator) (v u w : Option Scalar) → value_behind o v u ≡ Gives w → KnownIn use' v → KnownIn use' w
behind_known use' o v u w e h = kept_in use' v w (behind_some o v u w e) h

compared_some : (o : Relation) (v w : Option Scalar) → is_some v ≡ true → is_some w ≡ true → is_some (value_compared o v w) ≡ true
compared_some o (Some v) (Some w) h k = refl
compared_some o (Some v) None h k = absurd cc
compared_some o None w h k = absurd cc

pub compared_known : (use' : Use) (o : Relation) (v w : Option Scalar) → KnownIn use' v → KnownIn use' w → KnownIn use' (value_compared o v w)
compared_known InConstant o v w h k = compared_some o v w h k
compared_known InStatement o v w h k = tt
compared_known NotComputed o v w h k = tt
