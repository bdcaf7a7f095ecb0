-- Expressions, places and actuals by position and by name.
use Rattle.std.proofs.Common.{◌≡◌, refl, ap, sym, subst, ◌∙◌, arith, ℕ, ℤ, pos, negsuc, zero, suc, pred, ◌<◌, Bool, true, false, List, [], ◌∷◌, length, if◌then◌else◌, ltb-true}
use Rattle.std.specs.Prelude.{nat_lt, ◌&&◌, int_le, int_lt, ◌+ℤ◌, ◌-ℤ◌, ◌*ℤ◌, neg_ℤ}
use Rattle.std.specs.Int.{int_div_euclid, int_rem_euclid}
use Rattle.ob_interface.specs.declared.scalar.Scalar.{Scalar}
use Rattle.ob_interface.specs.declared.scalar.Scalar.TheVariants as Scalars
use Rattle.ob_typing.specs.declared.operator.Relation.{Relation}
use Rattle.ob_typing.specs.declared.operator.Relation.TheVariants as Relations
use Rattle.ob_interface.specs.declared.scalar.ScalarType.{ScalarType}
use Rattle.ob_interface.specs.declared.scalar.ScalarType.TheVariants.{Integer, Boolean}
use Rattle.ob_typing.specs.declared.operator.BinaryOperator.{BinaryOperator}
use Rattle.ob_typing.specs.declared.operator.BinaryOperator.TheVariants.{Plus, Minus, Times, Div, Mod, And, Or}
use Rattle.ob_typing.specs.Program.{Name, DataType, Simple, Array, Record, Owner, OfModule, Own, Slot, Expression, Literal, ValueOf, Negated, Complement, Computed, Compared, Operations, no_operation, operation, Designator, Designated, Selectors, no_selector, field_of, element_of, Actual, ByValue, ByPlace, Parameter}
use Rattle.ob_typing.specs.Arithmetic.{Evaluated, Gives, Traps, ◌>>=◌, type_of, number_of, takes, computed, decides, applied, negated, complement, compared, in_range}
use Rattle.ob_meaning.specs.ByNameValue as Named
use Rattle.ob_meaning.specs.ByNameStore as Names
use Rattle.ob_meaning.specs.OverStore as OverStore
use Rattle.ob_meaning.specs.ByNameEvaluation as Meanings
use Rattle.ob_meaning.specs.ByPositionValue.{Value, Single, Parts, scalar_of}
use Rattle.ob_meaning.specs.ByPositionStore.{Place, Held, Holds, Refers, Store, place_held, place_owned, place_of_slot, further_in, value_at, running}
use Rattle.ob_meaning.specs.ByPositionEvaluation as Evaluation
use Rattle.ob_meaning.specs.Resolved.{IsAt, HasField, HasElements, declared_by, IsOf, AreOf, IsVariable, Lead, IsActual, Fit}
use Rattle.ob_meaning.specs.Same.{SameScalar, SameSingle, SameValue, SameStep, SamePath, Scopes, scope_at, SamePlace, SameHeld, SameHanded, SameStore, SameEvaluated}
use Rattle.ob_meaning.proofs.SameValues.{path_both}
use Rattle.ob_meaning.proofs.SameStores.{value_at_same, named_length, store_length, held_here}

abbrev bind : {A B : Type 0} → Evaluated A → (A → Evaluated B) → Evaluated B
bind = ◌>>=◌

same_bind : {A B C D : Type 0} (R : A → B → Type 0) (S : C → D → Type 0) (v : Evaluated A) (w : Evaluated B) (f : A → Evaluated C) (g : B → Evaluated D) →
    SameEvaluated R v w → ((a : A) (b : B) → R a b → SameEvaluated S (f a) (g b)) → SameEvaluated S (bind v f) (bind w g)
same_bind R S (Gives a) (Gives b) f g h k = k a b h
same_bind R S (Gives a) (Traps n) f g h k = absurd h
same_bind R S (Traps n) (Gives b) f g h k = absurd h
same_bind R S (Traps n) (Traps m) f g h k = h

-- what operators give has the type that they take

abbrev IsOfType : ScalarType → Evaluated Scalar → Type 0
IsOfType t (Gives s) = type_of s ≡ t
IsOfType t (Traps k) = Unit {0}

ranged_if : (b : Bool) (z : ℤ) → IsOfType Integer (if b then Gives (Scalars.Int z) else Traps 1)
ranged_if true z = refl
ranged_if false z = tt

ranged_type : (z : ℤ) → IsOfType Integer (in_range z)
ranged_type z = ranged_if (int_le (negsuc 2147483647) z && int_le z (pos 2147483647)) z

divided_if : (b : Bool) (z : ℤ) → IsOfType Integer (if b then in_range z else Traps 3)
divided_if true z = ranged_type z
divided_if false z = tt

computed_type : (o : BinaryOperator) (x y : Scalar) → IsOfType (takes o) (computed o x y)
computed_type Plus x y = ranged_type (number_of x +ℤ number_of y)
computed_type Minus x y = ranged_type (number_of x -ℤ number_of y)
computed_type Times x y = ranged_type (number_of x *ℤ number_of y)
computed_type Div x y = divided_if (int_lt (pos 0) (number_of y)) (int_div_euclid (number_of x) (number_of y))
computed_type Mod x y = divided_if (int_lt (pos 0) (number_of y)) (int_rem_euclid (number_of x) (number_of y))
computed_type And x y = refl
computed_type Or x y = refl

compared_type : (r : Relation) (x y : Scalar) → type_of (compared r x y) ≡ Boolean
compared_type Relations.Equal x y = refl
compared_type Relations.NotEqual x y = refl
compared_type Relations.Less x y = refl
compared_type Relations.LessOrEqual x y = refl
compared_type Relations.Greater x y = refl
compared_type Relations.GreaterOrEqual x y = refl

itself : (t : ScalarType) (v : Evaluated Scalar) → IsOfType t v → SameEvaluated (SameScalar t) v v
itself t (Gives s) h = (refl, h)
itself t (Traps k) h = refl

-- one evaluation of one scalar is one evaluation
same_scalar : (t : ScalarType) (v w : Evaluated Scalar) → SameEvaluated (SameScalar t) v w → v ≡ w
same_scalar t (Gives a) (Gives b) h = ap Gives h.0
same_scalar t (Gives a) (Traps n) h = absurd h
same_scalar t (Traps n) (Gives b) h = absurd h
same_scalar t (Traps n) (Traps m) h = ap Traps h

applied_if : (t : ScalarType) (b : Bool) (o : BinaryOperator) (x y : Scalar) (v w : Evaluated Scalar) → SameScalar t x y → takes o ≡ t → SameEvaluated (SameScalar t) v w →
    SameEvaluated (SameScalar t) (if b then Gives x else bind v (λ z. computed o x z)) (if b then Gives y else bind w (λ z. computed o y z))
applied_if t true o x y v w h e k = h
applied_if t false o x y v w h e k =
    same_bind (SameScalar t) (SameScalar t) v w _ _ k (λ a b r.
    subst (λ z. SameEvaluated (SameScalar t) (computed o z a) (computed o y b)) (sym h.0)
    (subst (λ z. SameEvaluated (SameScalar t) (computed o y z) (computed o y b)) (sym r.0)
    (itself t (computed o y b) (subst (λ u. IsOfType u (computed o y b)) e (computed_type o y b)))))

applied_same : (t : ScalarType) (o : BinaryOperator) (x y : Scalar) (v w : Evaluated Scalar) → SameScalar t x y → takes o ≡ t → SameEvaluated (SameScalar t) v w →
    SameEvaluated (SameScalar t) (applied o x v) (applied o y w)
applied_same t o x y v w h e k =
    subst (λ d. SameEvaluated (SameScalar t) (if d then Gives x else bind v (λ z. computed o x z)) (applied o y w)) (ap (decides o) (sym h.0))
    (applied_if t (decides o y) o x y v w h e k)

-- the scalar of a value that is one
scalar_same : (t : ScalarType) (v : Named.Value) (w : Value) → SameSingle t v w → SameScalar t (Named.scalar_of v) (scalar_of w)
scalar_same t (Named.Single s) (Single r) h = h
scalar_same t (Named.Single s) (Parts ws) h = absurd h
scalar_same t (Named.Elements vs) w h = absurd h
scalar_same t (Named.Named vs) w h = absurd h

-- an index that is within an array

abbrev SameIndex : ℕ → ℕ → ℕ → Type 0
SameIndex n i j = (i ≡ j) × (j < n)

within_if : (n i : ℕ) (b : Bool) → nat_lt i n ≡ b → SameEvaluated (SameIndex n) (if b then Gives i else Traps 2) (if b then Gives i else Traps 2)
within_if n i true e = (refl, ltb-true i n e)
within_if n i false e = refl

within_same : (n : ℕ) (z : ℤ) → SameEvaluated (SameIndex n) (OverStore.within n z) (OverStore.within n z)
within_same n (pos i) = within_if n i (nat_lt i n) refl
within_same n (negsuc i) = refl

step_field : (t s : DataType) (name : Name) (i : ℕ) → HasField t name i s → SameStep t (Named.Field name) i s
step_field (Simple k) s name i h = absurd h
step_field (Array place n e) s name i h = absurd h
step_field (Record place fs) s name i h = h

step_element : (t s : DataType) (n i j : ℕ) → HasElements t n s → SameIndex n i j → SameStep t (Named.Index i) j s
step_element (Simple k) s n i j h b = absurd h
step_element (Array place m e) s n i j h b = (b.0, (subst (λ l. j < l) (sym h.0) b.1, h.1))
step_element (Record place fs) s n i j h b = absurd h

-- an activation that declares something is there
below : (scopes : Scopes) (k : ℕ) (name : Name) (i : ℕ) (p : Parameter) → IsAt (scope_at scopes k) name i p → k < length scopes
below [] k name i p at = absurd at
below (s ∷ scopes) zero name i p at = omega arith
below (s ∷ scopes) (suc k) name i p at = let rest = below scopes k name i p at in omega (arith, rest)

module _ (scopes : Scopes) (ms : Names.Store) (ss : Store) (same : SameStore scopes ms ss) where
  held_place : (k : ℕ) (name : Name) (i : ℕ) (p : Parameter) (m : Names.Held) (g : Held) → IsAt (scope_at scopes k) name i p → SameHeld scopes k p m g →
      SamePlace scopes p.type (Names.place_held m k name) (place_held g k i)
  held_place k name i p (Names.Holds a) (Holds b) at h = record { activation = refl; variable = p; there = at; own = h.0; path = refl }
  held_place k name i p (Names.Holds a) (Refers q) at h = absurd h
  held_place k name i p (Names.Refers a) (Holds b) at h = absurd h
  held_place k name i p (Names.Refers a) (Refers q) at h = h.1.0

  place_owned_same : (outer own : List Parameter) (owner : Owner) (name : Name) (i : ℕ) (p : Parameter) →
      scope_at scopes 0 ≡ outer → scope_at scopes (running ss) ≡ own → IsAt (declared_by outer own owner) name i p → (owner ≡ OfModule → p.is_var ≡ false) →
      SamePlace scopes p.type (Names.place_owned owner ms name) (place_owned owner ss i)
  place_owned_same outer own OfModule name i p o r at var =
      record { activation = refl; variable = p; there = subst (λ sc. IsAt sc name i p) (sym o) at; own = var refl; path = refl }
  place_owned_same outer own Own name i p o r at var =
      let here : IsAt (scope_at scopes (running ss)) name i p = subst (λ sc. IsAt sc name i p) (sym r) at in
      let e : Names.running ms ≡ running ss = ap pred (named_length scopes ms ss same ∙ sym (store_length scopes ms ss same)) in
      subst (λ k. SamePlace scopes p.type (Names.place_held (Names.held_by (Names.activation_at ms k) name) k name) (place_owned Own ss i)) (sym e)
      (held_place (running ss) name i p _ _ here (held_here scopes ms ss (running ss) name i p same here))

  further_same : (s t : DataType) (a : Names.Place) (b : Place) (selectors : List Named.SelectorValue) (path : List ℕ) →
      SamePlace scopes s a b → SamePath s selectors path t → SamePlace scopes t (Names.further_in a selectors) (further_in b path)
  further_same s t a b selectors path p k =
      record {
        activation = p.activation;
        variable = p.variable;
        there = p.there;
        own = p.own;
        path = path_both p.variable.type s t a.selectors selectors b.path path p.path k;
      }

  module _ (outer own : List Parameter) (o : scope_at scopes 0 ≡ outer) (r : scope_at scopes (running ss) ≡ own)
      (plain : (name : Name) (i : ℕ) (p : Parameter) → IsAt outer name i p → p.is_var ≡ false) where
    slot_same : (slot : Slot) (p : Parameter) → IsAt (declared_by outer own slot.owner) slot.name slot.position p →
        SamePlace scopes p.type (Names.place_of_slot ms slot) (place_of_slot ss slot)
    slot_same slot p at =
        place_owned_same outer own slot.owner slot.name slot.position p o r at
        (λ e. plain slot.name slot.position p (subst (λ x. IsAt (declared_by outer own x) slot.name slot.position p) e at))

    mutual
      pub value_same : (e : Expression) (t : ScalarType) → IsOf outer own e t → SameEvaluated (SameScalar t) (Meanings.value_of ms e) (Evaluation.value_of ss e)
      value_same (Literal s) t h = (refl, h)
      value_same (ValueOf type d) t h =
          same_bind (SamePlace scopes (Simple t)) (SameScalar t) (Meanings.place_of ms d) (Evaluation.place_of ss d) _ _ (place_same d (Simple t) h.1)
          (λ a b p. scalar_same t (Names.value_at ms a) (value_at ss b) (value_at_same scopes ms ss (Simple t) a b same p))
      value_same (Negated e) t h =
          same_bind (SameScalar Integer) (SameScalar t) (Meanings.value_of ms e) (Evaluation.value_of ss e) _ _ (value_same e Integer h.1)
          (λ a b k. subst (λ z. SameEvaluated (SameScalar t) (negated z) (negated b)) (sym k.0)
          (itself t (negated b) (subst (λ u. IsOfType u (negated b)) (sym h.0) (ranged_type (neg_ℤ (number_of b))))))
      value_same (Complement e) t h =
          same_bind (SameScalar Boolean) (SameScalar t) (Meanings.value_of ms e) (Evaluation.value_of ss e) _ _ (value_same e Boolean h.1)
          (λ a b k. (ap complement k.0, sym h.0))
      value_same (Computed first rest) t h =
          same_bind (SameScalar t) (SameScalar t) (Meanings.value_of ms first) (Evaluation.value_of ss first) _ _ (value_same first t h.0)
          (λ a b k. behind_same rest a b t k h.1)
      value_same (Compared relation left right) t h =
          same_bind (SameScalar h.1.0) (SameScalar t) (Meanings.value_of ms left) (Evaluation.value_of ss left) _ _ (value_same left h.1.0 h.1.1.0)
          (λ a b k. same_bind (SameScalar h.1.0) (SameScalar t) (Meanings.value_of ms right) (Evaluation.value_of ss right) _ _ (value_same right h.1.0 h.1.1.1)
          (λ c d n. (ap (λ z. compared relation z c) k.0 ∙ ap (compared relation b) n.0, compared_type relation b d ∙ sym h.0)))

      behind_same : (operations : Operations) (x y : Scalar) (t : ScalarType) → SameScalar t x y → AreOf outer own operations t →
          SameEvaluated (SameScalar t) (Meanings.value_behind ms x operations) (Evaluation.value_behind ss y operations)
      behind_same no_operation x y t k h = k
      behind_same (operation operator e rest) x y t k h =
          same_bind (SameScalar t) (SameScalar t) (applied operator x (Meanings.value_of ms e)) (applied operator y (Evaluation.value_of ss e)) _ _
          (applied_same t operator x y (Meanings.value_of ms e) (Evaluation.value_of ss e) k h.0 (value_same e t h.1.0))
          (λ a b n. behind_same rest a b t n h.1.1)

      pub place_same : (d : Designator) (t : DataType) → IsVariable outer own d t → SameEvaluated (SamePlace scopes t) (Meanings.place_of ms d) (Evaluation.place_of ss d)
      place_same (Designated slot selectors) t h =
          same_bind (λ xs ys. SamePath h.0.type xs ys t) (SamePlace scopes t) (Meanings.values_of ms selectors) (Evaluation.path_of ss selectors) _ _
          (path_same selectors h.0.type t h.1.1)
          (λ xs ys k. further_same h.0.type t (Names.place_of_slot ms slot) (place_of_slot ss slot) xs ys (slot_same slot h.0 h.1.0) k)

      path_same : (selectors : Selectors) (t u : DataType) → Lead outer own t selectors u →
          SameEvaluated (λ xs ys. SamePath t xs ys u) (Meanings.values_of ms selectors) (Evaluation.path_of ss selectors)
      path_same no_selector t u h = h
      path_same (field_of i name rest) t u h =
          same_bind (λ xs ys. SamePath h.0 xs ys u) (λ xs ys. SamePath t xs ys u) (Meanings.values_of ms rest) (Evaluation.path_of ss rest) _ _
          (path_same rest h.0 u h.1.1) (λ xs ys k. (h.0, (step_field t h.0 name i h.1.0, k)))
      path_same (element_of n e rest) t u h =
          same_bind (SameScalar Integer) (λ xs ys. SamePath t xs ys u) (Meanings.value_of ms e) (Evaluation.value_of ss e) _ _ (value_same e Integer h.1.1.0)
          (λ a b k.
          same_bind (SameIndex n) (λ xs ys. SamePath t xs ys u) (OverStore.within n (number_of a)) (OverStore.within n (number_of b)) _ _
          (subst (λ z. SameEvaluated (SameIndex n) (OverStore.within n (number_of z)) (OverStore.within n (number_of b))) (sym k.0) (within_same n (number_of b)))
          (λ i j q.
          same_bind (λ xs ys. SamePath h.0 xs ys u) (λ xs ys. SamePath t xs ys u) (Meanings.values_of ms rest) (Evaluation.path_of ss rest) _ _
          (path_same rest h.0 u h.1.1.1) (λ xs ys z. (h.0, (step_element t h.0 n i j h.1.0 q, z)))))

    handed_same : (p : Parameter) (a : Actual) → IsActual outer own p a → SameEvaluated (SameHeld scopes (length scopes) p) (Meanings.handed ms a) (Evaluation.handed ss a)
    handed_same p (ByValue e) h =
        same_bind (SameScalar h.1.0) (SameHeld scopes (length scopes) p) (Meanings.value_of ms e) (Evaluation.value_of ss e) _ _ (value_same e h.1.0 h.1.1.1)
        (λ a b k. (h.0, subst (λ t. SameValue t (Named.Single a) (Single b)) (sym h.1.1.0) k))
    handed_same p (ByPlace d) h =
        same_bind (SamePlace scopes p.type) (SameHeld scopes (length scopes) p) (Meanings.place_of ms d) (Evaluation.place_of ss d) _ _ (place_same d p.type h.1)
        (λ a b k. (h.0, (k, below scopes b.activation a.name b.position k.variable k.there)))

    pub all_handed_same : (ps : List Parameter) (actuals : List Actual) → Fit outer own ps actuals →
        SameEvaluated (SameHanded scopes ps) (Meanings.all_handed ms actuals) (Evaluation.all_handed ss actuals)
    all_handed_same [] [] h = tt
    all_handed_same [] (a ∷ actuals) h = absurd h
    all_handed_same (p ∷ ps) [] h = absurd h
    all_handed_same (p ∷ ps) (a ∷ actuals) h =
        same_bind (SameHeld scopes (length scopes) p) (SameHanded scopes (p ∷ ps)) (Meanings.handed ms a) (Evaluation.handed ss a) _ _ (handed_same p a h.0)
        (λ x y k. same_bind (SameHanded scopes ps) (SameHanded scopes (p ∷ ps)) (Meanings.all_handed ms actuals) (Evaluation.all_handed ss actuals) _ _ (all_handed_same ps actuals h.1)
        (λ xs ys n. (k, n)))
