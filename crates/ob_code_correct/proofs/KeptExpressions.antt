-- What evaluation gives is of its type, where the store fits.
use Rattle.std.proofs.Common.{◌≡◌, ℕ, ◌<◌, Bool, true, false, ◌&&◌, ℤ, pos, negsuc, List, [], ◌∷◌, length, refl, sym, subst, arith}
use Rattle.std.specs.Prelude.{◌+ℤ◌, ◌-ℤ◌, ◌*ℤ◌, neg_ℤ, int_le, int_lt, nat_lt, if◌then◌else◌}
use Rattle.std.specs.Int.{int_div_euclid, int_rem_euclid}
use Rattle.std.proofs.lemmas.Int.{ints}
use Rattle.std.proofs.lemmas.Bool.Decides.{nat_tests}
use Rattle.ob_interface.specs.declared.scalar.Scalar.{Scalar}
use Rattle.ob_interface.specs.declared.scalar.Scalar.TheVariants.{Int}
use Rattle.ob_interface.specs.declared.scalar.ScalarType.{ScalarType}
use Rattle.ob_interface.specs.declared.scalar.ScalarType.TheVariants.{Integer, Boolean}
use Rattle.ob_typing.specs.declared.operator.BinaryOperator.{BinaryOperator}
use Rattle.ob_typing.specs.declared.operator.BinaryOperator.TheVariants.{Plus, Minus, Times, Div, Mod, And, Or}
use Rattle.ob_typing.specs.declared.operator.Relation.{Relation}
use Rattle.ob_typing.specs.declared.operator.Relation.TheVariants.{Equal, NotEqual, Less, LessOrEqual, Greater, GreaterOrEqual}
use Rattle.ob_typing.specs.Program.{DataType, Simple, Array, Record, Slot, Expression, Literal, ValueOf, Negated, Complement, Computed, Compared, Operations, no_operation, operation, Designator, Designated, Selectors, no_selector, field_of, element_of, Actual, ByValue, ByPlace}
use Rattle.ob_typing.specs.Arithmetic.{Evaluated, Gives, Traps, ◌>>=◌, number_of, in_range, divided, computed, decides, applied, negated, complement, compared, takes}
use Rattle.ob_meaning.specs.ByPositionValue.{Value, scalar_of}
use Rattle.ob_meaning.specs.ByPositionStore.{Place, Store, place_of_slot, further_in, value_at}
use Rattle.ob_meaning.specs.OverStore.{within}
use Rattle.ob_meaning.specs.ByPositionEvaluation.{value_of, value_behind, place_of, path_of, handed, all_handed}
use Rattle.ob_code_scheme.specs.Types.{part_type, Space, Holding, Referring, Scope, type_at, scope_of, IsInteger, IsScalarOf, HasPart, IsPath, IsPlace, FitsHeld, FitsHanded, Fits}
use Rattle.ob_code_scheme.specs.WellFormed.{HasPosition, HasFieldAt, HasLength, IsOf, AreOf, Designates, Selects, IsActual, AreActuals}
use Rattle.ob_code_correct.proofs.Memory.{memory_holds}
use Rattle.ob_code_correct.proofs.Growth.{place_below}
use Rattle.ob_code_correct.specs.Kept.{Gets}

gets_then : {A B : Type 0} (P : A → Type 0) (Q : B → Type 0) (e : Evaluated A) (go : A → Evaluated B) → Gets P e → ((a : A) → P a → Gets Q (go a)) → Gets Q (◌>>=◌ e go)
gets_then P Q (Gives a) go h g = g a h
gets_then P Q (Traps k) go h g = tt

gets_if : {A : Type 0} (P : A → Type 0) (b : Bool) (x y : Evaluated A) → (b ≡ true → Gets P x) → (b ≡ false → Gets P y) → Gets P (if b then x else y)
gets_if P true x y h g = h refl
gets_if P false x y h g = g refl

-- ---- scalars

first_true : (a b : Bool) → a && b ≡ true → a ≡ true
first_true true b h = refl
first_true false b h = absurd (cc)

second_true : (a b : Bool) → a && b ≡ true → b ≡ true
second_true true b h = h
second_true false b h = absurd (cc)

is_integer : (z : ℤ) → int_le (negsuc 2147483647) z ≡ true → int_le z (pos 2147483647) ≡ true → IsInteger z
is_integer z low high = record { low = grind (arith, ints); high = grind (arith, ints) }

in_range_typed : (z : ℤ) → Gets (IsScalarOf Integer) (in_range z)
in_range_typed z =
    gets_if (IsScalarOf Integer) (int_le (negsuc 2147483647) z && int_le z (pos 2147483647)) (Gives (Int z)) _
    (λ e. is_integer z (first_true (int_le (negsuc 2147483647) z) (int_le z (pos 2147483647)) e) (second_true (int_le (negsuc 2147483647) z) (int_le z (pos 2147483647)) e))
    (λ e. tt)

divided_typed : (f : ℤ → ℤ → ℤ) (x y : ℤ) → Gets (IsScalarOf Integer) (divided f x y)
divided_typed f x y = gets_if (IsScalarOf Integer) (int_lt (pos 0) y) (in_range (f x y)) _ (λ e. in_range_typed (f x y)) (λ e. tt)

computed_typed : (o : BinaryOperator) (v w : Scalar) → Gets (IsScalarOf (takes o)) (computed o v w)
computed_typed Plus v w = in_range_typed (number_of v +ℤ number_of w)
computed_typed Minus v w = in_range_typed (number_of v -ℤ number_of w)
computed_typed Times v w = in_range_typed (number_of v *ℤ number_of w)
computed_typed Div v w = divided_typed int_div_euclid (number_of v) (number_of w)
computed_typed Mod v w = divided_typed int_rem_euclid (number_of v) (number_of w)
computed_typed And v w = tt
computed_typed Or v w = tt

applied_typed : (o : BinaryOperator) (t : ScalarType) (v : Scalar) (right : Evaluated Scalar) → takes o ≡ t → IsScalarOf t v → Gets (IsScalarOf t) right → Gets (IsScalarOf t) (applied o v right)
applied_typed o t v right is typed h =
    gets_if (IsScalarOf t) (decides o v) (Gives v) (◌>>=◌ right (λ w. computed o v w)) (λ e. typed)
    (λ e. gets_then (IsScalarOf t) (IsScalarOf t) right (λ w. computed o v w) h (λ w k. subst (λ (r : ScalarType). Gets (IsScalarOf r) (computed o v w)) is (computed_typed o v w)))

compared_typed : (relation : Relation) (v w : Scalar) → IsScalarOf Boolean (compared relation v w)
compared_typed Equal v w = tt
compared_typed NotEqual v w = tt
compared_typed Less v w = tt
compared_typed LessOrEqual v w = tt
compared_typed Greater v w = tt
compared_typed GreaterOrEqual v w = tt

-- ---- parts

field_part : (from : DataType) (position : ℕ) → HasFieldAt from position → HasPart from position
field_part (Simple type) position h = absurd h
field_part (Array place length element) position h = absurd h
field_part (Record place fields) position h = h

element_part : (from : DataType) (n i : ℕ) → HasLength from n → i < n → HasPart from i
element_part (Simple type) n i h below = absurd h
element_part (Array place length element) n i h below = omega (arith, h, below)
element_part (Record place fields) n i h below = absurd h

element_type : (from : DataType) (n i : ℕ) → HasLength from n → part_type from i ≡ part_type from 0
element_type (Simple type) n i h = absurd h
element_type (Array place length element) n i h = refl
element_type (Record place fields) n i h = absurd h

within_below : (n : ℕ) (z : ℤ) → Gets (λ i. i < n) (within n z)
within_below n (pos i) = gets_if (λ i. i < n) (nat_lt i n) (Gives i) _ (λ e. below i e) (λ e. tt)
  where
    below : (i : ℕ) → nat_lt i n ≡ true → i < n
    below i e = grind (arith, nat_tests)
within_below n (negsuc i) = tt

-- ---- in a store

-- where these are the scopes of its positions, and this is the scope of the running one: each variable's place is one of its type
abbrev pub HasVariables : List Scope → (globals own : Scope) → Store → Type 0
HasVariables scopes globals own store =
    (slot : Slot) → HasPosition (scope_of globals own slot.owner) slot.position → IsPlace scopes (place_of_slot store slot) (type_at (scope_of globals own slot.owner) slot.position)

module _ (scopes : List Scope) (globals own : Scope) (store : Store) (fits : Fits scopes store) (variables : HasVariables scopes globals own store) where
  read_typed : (t : ScalarType) (place : Place) → IsPlace scopes place (Simple t) → IsScalarOf t (scalar_of (value_at store place))
  read_typed t place is =
      let l = memory_holds.looks scopes store place t fits is in
      subst (λ (v : Value). IsScalarOf t (scalar_of v)) (sym l.value_is) l.typed

  mutual
    pub value_typed : (e : Expression) (t : ScalarType) → IsOf globals own e t → Gets (IsScalarOf t) (value_of store e)
    value_typed (Literal s) t h = h
    value_typed (ValueOf type d) t h =
        gets_then (λ place. IsPlace scopes place (Simple t)) (IsScalarOf t) (place_of store d) (λ place. Gives (scalar_of (value_at store place))) (place_typed d (Simple t) h)
        (λ place is. read_typed t place is)
    value_typed (Negated e) Integer h =
        gets_then (IsScalarOf Integer) (IsScalarOf Integer) (value_of store e) negated (value_typed e Integer h) (λ x k. in_range_typed (neg_ℤ (number_of x)))
    value_typed (Negated e) Boolean h = absurd h
    value_typed (Complement e) Integer h = absurd h
    value_typed (Complement e) Boolean h =
        gets_then (IsScalarOf Boolean) (IsScalarOf Boolean) (value_of store e) (λ x. Gives (complement x)) (value_typed e Boolean h) (λ x k. tt)
    value_typed (Computed first rest) t h =
        gets_then (IsScalarOf t) (IsScalarOf t) (value_of store first) (λ x. value_behind store x rest) (value_typed first t h.0) (λ x k. behind_typed rest t x k h.1)
    value_typed (Compared relation left right) Integer h = absurd h
    value_typed (Compared relation left right) Boolean h =
        gets_then (IsScalarOf h.0) (IsScalarOf Boolean) (value_of store left) (λ x. ◌>>=◌ (value_of store right) (λ y. Gives (compared relation x y))) (value_typed left h.0 h.2)
        (λ x k. gets_then (IsScalarOf h.0) (IsScalarOf Boolean) (value_of store right) (λ y. Gives (compared relation x y)) (value_typed right h.0 h.3) (λ y l. compared_typed relation x y))

    pub behind_typed : (rest : Operations) (t : ScalarType) (x : Scalar) → IsScalarOf t x → AreOf globals own rest t → Gets (IsScalarOf t) (value_behind store x rest)
    behind_typed no_operation t x typed h = typed
    behind_typed (operation o e rest) t x typed h =
        gets_then (IsScalarOf t) (IsScalarOf t) (applied o x (value_of store e)) (λ y. value_behind store y rest) (applied_typed o t x (value_of store e) h.0 typed (value_typed e t h.1))
        (λ y k. behind_typed rest t y k h.2)

    pub place_typed : (d : Designator) (type : DataType) → Designates globals own d type → Gets (λ place. IsPlace scopes place type) (place_of store d)
    place_typed (Designated slot selectors) type h =
        let from = type_at (scope_of globals own slot.owner) slot.position in
        gets_then (λ path. IsPath from path type) (λ place. IsPlace scopes place type) (path_of store selectors) (λ path. Gives (further_in (place_of_slot store slot) path))
        (path_typed selectors from type h.1)
        (λ path k. memory_holds.further_places scopes (place_of_slot store slot) from type path (variables slot h.0) k)

    pub path_typed : (selectors : Selectors) (from to : DataType) → Selects globals own from selectors to → Gets (λ path. IsPath from path to) (path_of store selectors)
    path_typed no_selector from to h = h
    path_typed (field_of position name rest) from to h =
        gets_then (λ path. IsPath (part_type from position) path to) (λ path. IsPath from path to) (path_of store rest) (λ path. Gives (position ∷ path))
        (path_typed rest (part_type from position) to h.1) (λ path k. (field_part from position h.0, k))
    path_typed (element_of n index rest) from to h =
        gets_then (IsScalarOf Integer) (λ path. IsPath from path to) (value_of store index)
        (λ x. ◌>>=◌ (within n (number_of x)) (λ i. ◌>>=◌ (path_of store rest) (λ path. Gives (i ∷ path)))) (value_typed index Integer h.1)
        (λ x k. gets_then (λ i. i < n) (λ path. IsPath from path to) (within n (number_of x)) (λ i. ◌>>=◌ (path_of store rest) (λ path. Gives (i ∷ path))) (within_below n (number_of x))
        (λ i below. gets_then (λ path. IsPath (part_type from 0) path to) (λ path. IsPath from path to) (path_of store rest) (λ path. Gives (i ∷ path)) (path_typed rest (part_type from 0) to h.2)
        (λ path l. (element_part from n i h.0 below, subst (λ (type : DataType). IsPath type path to) (sym (element_type from n i h.0)) l))))

  -- ---- what actuals hand over

  actual_typed : (a : Actual) (s : Space) → IsActual globals own a s → Gets (λ x. FitsHeld scopes (length scopes) s x) (handed store a)
  actual_typed (ByValue e) (Holding (Simple t)) h =
      gets_then (IsScalarOf t) (λ x. FitsHeld scopes (length scopes) (Holding (Simple t)) x) (value_of store e) _ (value_typed e t h) (λ v k. k)
  actual_typed (ByPlace d) (Referring type) h =
      gets_then (λ place. IsPlace scopes place type) (λ x. FitsHeld scopes (length scopes) (Referring type) x) (place_of store d) _ (place_typed d type h)
      (λ place k. (place_below scopes place.activation place.position place.path type k, k))
  actual_typed (ByValue e) (Holding (Array place n element)) h = absurd h
  actual_typed (ByValue e) (Holding (Record place fields)) h = absurd h
  actual_typed (ByValue e) (Referring type) h = absurd h
  actual_typed (ByPlace d) (Holding type) h = absurd h

  pub actuals_typed : (actuals : List Actual) (scope : Scope) → AreActuals globals own actuals scope → Gets (λ x. FitsHanded scopes scope x) (all_handed store actuals)
  actuals_typed [] [] h = tt
  actuals_typed [] (s ∷ scope) h = absurd h
  actuals_typed (a ∷ actuals) [] h = absurd h
  actuals_typed (a ∷ actuals) (s ∷ scope) h =
      gets_then (λ x. FitsHeld scopes (length scopes) s x) (λ x. FitsHanded scopes (s ∷ scope) x) (handed store a) (λ first. ◌>>=◌ (all_handed store actuals) (λ rest. Gives (first ∷ rest))) (actual_typed a s h.0)
      (λ first k. gets_then (λ x. FitsHanded scopes scope x) (λ x. FitsHanded scopes (s ∷ scope) x) (all_handed store actuals) (λ rest. Gives (first ∷ rest)) (actuals_typed actuals scope h.1) (λ rest l. (k, l)))
