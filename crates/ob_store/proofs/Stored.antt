-- What a write at a place does to activations.
use Rattle.std.proofs.Common.{◌≡◌, List, [], ◌∷◌, refl, ap, sym, ◌∙◌, ℕ, zero, suc, Vec, Option, Some, None, ◌-◌, map, get_or, set, length, ◌<◌, ◌≤◌, arith}
use Rattle.std.specs.Global.{Global}
use Rattle.std.specs.Prelude.{slice_set}
use Rattle.std.proofs.lemmas.List.{map-set, length-map}
use Rattle.ob_store.specs.declared.store.Held.{Held}
use Rattle.ob_store.specs.View.{value_in, values_in, held_in, put_back, activation_in, variables_in}
use Rattle.ob_store.specs.Begun.{put_back_at}
use Rattle.ob_store.specs.declared.value.Value.{Value}
use Rattle.ob_store.specs.declared.value.Value.TheVariants as Variants
use Rattle.ob_interface.specs.declared.scalar.Scalar.{Scalar}
use Rattle.ob_meaning.specs.ByPositionValue as Values
use Rattle.ob_meaning.specs.ByPositionStore as Stores

pub with_held-set : (hs : List Held) (i : ℕ) (d h : Held) (path : List ℕ) (w : Values.Value) → i < length hs →
    held_in h ≡ Stores.with_value (held_in (get_or hs i d)) path w → map held_in (set hs i h) ≡ Stores.with_held (map held_in hs) i path w
with_held-set [] i d h path w below e = absurd (omega (arith, below))
with_held-set (g ∷ hs) zero d h path w below e = ap (λ x. x ∷ map held_in hs) e
with_held-set (g ∷ hs) (suc i) d h path w below e = ap (λ xs. held_in g ∷ xs) (with_held-set hs i d h path w (omega (arith, below)) e)

pub with_held-beyond : (hs : List Held) (i : ℕ) (path : List ℕ) (w : Values.Value) → length hs ≤ i → map held_in hs ≡ Stores.with_held (map held_in hs) i path w
with_held-beyond [] i path w h = refl
with_held-beyond (g ∷ hs) zero path w h = absurd (omega (arith, h))
with_held-beyond (g ∷ hs) (suc i) path w h = ap (λ xs. held_in g ∷ xs) (with_held-beyond hs i path w (omega (arith, h)))

-- the same of variables with values of their own
pub variables_set : (vs : List Value) (i : ℕ) (d v : Value) (path : List ℕ) (w : Values.Value) → i < length vs →
    value_in v ≡ Values.replaced (value_in (get_or vs i d)) path w → variables_in (set vs i v) ≡ Stores.with_held (variables_in vs) i path w
variables_set [] i d v path w below e = absurd (omega (arith, below))
variables_set (u ∷ vs) zero d v path w below e = ap (λ x. Stores.Holds x ∷ variables_in vs) e
variables_set (u ∷ vs) (suc i) d v path w below e = ap (λ xs. Stores.Holds (value_in u) ∷ xs) (variables_set vs i d v path w (omega (arith, below)) e)

pub variables_beyond : (vs : List Value) (i : ℕ) (path : List ℕ) (w : Values.Value) → length vs ≤ i →
    variables_in vs ≡ Stores.with_held (variables_in vs) i path w
variables_beyond [] i path w h = refl
variables_beyond (u ∷ vs) zero path w h = absurd (omega (arith, h))
variables_beyond (u ∷ vs) (suc i) path w h = ap (λ xs. Stores.Holds (value_in u) ∷ xs) (variables_beyond vs i path w (omega (arith, h)))

-- and what was there put back
pub put_back-set : (vs : List Value) (i : ℕ) (d v : Value) (path : List ℕ) (was : Option Value) → i < length vs →
    put_back (value_in v) path was ≡ value_in (get_or vs i d) → put_back_at (variables_in (set vs i v)) i path was ≡ variables_in vs
put_back-set [] i d v path was below e = absurd (omega (arith, below))
put_back-set (u ∷ vs) zero d v path None below e = ap (λ x. Stores.Holds x ∷ variables_in vs) e
put_back-set (u ∷ vs) zero d v path (Some was) below e = ap (λ x. Stores.Holds x ∷ variables_in vs) e
put_back-set (u ∷ vs) (suc i) d v path None below e = ap (λ xs. Stores.Holds (value_in u) ∷ xs) (put_back-set vs i d v path None (omega (arith, below)) e)
put_back-set (u ∷ vs) (suc i) d v path (Some was) below e = ap (λ xs. Stores.Holds (value_in u) ∷ xs) (put_back-set vs i d v path (Some was) (omega (arith, below)) e)

-- a scalar that is written over, put back
pub scalar_put_back : (vs lent : List Value) (i : ℕ) (held v : Value) (was : Scalar) → lent ≡ vs → i < length vs → held ≡ get_or lent i held →
    held ≡ Variants.Single was → Stores.with_held (variables_in (set vs i v)) i [] (Values.Single was) ≡ variables_in vs
scalar_put_back vs lent i held v was same below read is =
    ap (λ w. Stores.with_held (variables_in (set vs i v)) i [] (value_in w)) (sym is)
    ∙ put_back-set vs i held v [] (Some held) below (ap value_in (read ∙ ap (λ us. get_or us i held) same))

-- values that are the same as parts are the same as variables
pub same_variables : (us vs : List Value) → values_in us ≡ values_in vs → variables_in us ≡ variables_in vs
same_variables [] [] h = refl
same_variables [] (v ∷ vs) h = absurd cc
same_variables (u ∷ us) [] h = absurd cc
same_variables (u ∷ us) (v ∷ vs) h =
    let first : value_in u ≡ value_in v = cc in
    let rest : values_in us ≡ values_in vs = cc in
    ap (λ x. Stores.Holds x ∷ variables_in us) first ∙ ap (λ xs. Stores.Holds (value_in v) ∷ xs) (same_variables us vs rest)

activation_at-read : (all : List (Vec Held Global)) (i : ℕ) (d : Vec Held Global) → i < length all →
    Stores.activation_at (map activation_in all) i ≡ activation_in (get_or all i d)
activation_at-read [] i d h = absurd (omega (arith, h))
activation_at-read (a ∷ all) zero d h = refl
activation_at-read (a ∷ all) (suc i) d h = activation_at-read all i d (omega (arith, h))

activation_at-beyond : (all : List (Vec Held Global)) (i : ℕ) → length all ≤ i → Stores.activation_at (map activation_in all) i ≡ []
activation_at-beyond [] i h = refl
activation_at-beyond (a ∷ all) zero h = absurd (omega (arith, h))
activation_at-beyond (a ∷ all) (suc i) h = activation_at-beyond all i (omega (arith, h))

-- activations behind the module's
module _ (first : Stores.Activation) (all : List (Vec Held Global)) where
  pub behind_read : (k : ℕ) (d : Vec Held Global) → 0 < k → k - 1 < length all →
      activation_in (get_or all (k - 1) d) ≡ Stores.activation_at (first ∷ map activation_in all) k
  behind_read zero d some h = absurd (omega (arith, some))
  behind_read (suc k) d some h =
      let e : suc k - 1 ≡ k = omega arith in
      ap (λ i. activation_in (get_or all i d)) e ∙ sym (activation_at-read all k d (omega (arith, h)))

  pub behind_beyond : (k : ℕ) → 0 < k → length all ≤ k - 1 → [] ≡ Stores.activation_at (first ∷ map activation_in all) k
  behind_beyond zero some h = absurd (omega (arith, some))
  behind_beyond (suc k) some h = sym (activation_at-beyond all k (omega (arith, h)))

-- an activation with a value put into it, back where it stood
stored_is : (all : List (Vec Held Global)) (was next : Vec Held Global) (k i : ℕ) (path : List ℕ) (w : Values.Value) → k < length all →
    was ≡ get_or all k was → activation_in next ≡ Stores.with_held (activation_in was) i path w →
    map activation_in (set all k next) ≡ Stores.stored (map activation_in all) (record { activation = k; position = i; path = path }) w
stored_is all was next k i path w below read put =
    map-set activation_in all k next
    ∙ ap (set (map activation_in all) k)
    (put ∙ ap (λ a. Stores.with_held a i path w) (ap activation_in read ∙ sym (activation_at-read all k was below)))

stored_beyond : (store : Stores.Store) (k : ℕ) (a : Stores.Activation) → length store ≤ k → store ≡ slice_set store k a
stored_beyond [] k a h = refl
stored_beyond (b ∷ store) zero a h = absurd (omega (arith, h))
stored_beyond (b ∷ store) (suc k) a h = ap (λ s. b ∷ s) (stored_beyond store k a (omega (arith, h)))

module _ (first : Stores.Activation) (place : Stores.Place) (w : Values.Value) where
  -- a write to the module's activation
  pub first_stored : (next : Stores.Activation) (others : Stores.Store) → place.activation ≡ 0 →
      next ≡ Stores.with_held first place.position place.path w → next ∷ others ≡ Stores.stored (first ∷ others) place w
  first_stored next others at put =
      ap (λ a. a ∷ others) put
      ∙ ap (λ k. slice_set (first ∷ others) k (Stores.with_held (Stores.activation_at (first ∷ others) k) place.position place.path w)) (sym at)

  module _ (all : List (Vec Held Global)) (some : 0 < place.activation) where
    one_more : suc (place.activation - 1) ≡ place.activation
    one_more = omega (arith, some)

    -- a write to one behind it
    pub behind_stored : (was next : Vec Held Global) → place.activation - 1 < length all → was ≡ get_or all (place.activation - 1) was →
        activation_in next ≡ Stores.with_held (activation_in was) place.position place.path w →
        first ∷ map activation_in (set all (place.activation - 1) next) ≡ Stores.stored (first ∷ map activation_in all) place w
    behind_stored was next below read put =
        ap (λ s. first ∷ s) (stored_is all was next (place.activation - 1) place.position place.path w below read put)
        ∙ ap (λ k. Stores.stored (first ∷ map activation_in all) (record { activation = k; position = place.position; path = place.path }) w) one_more

    -- a write where there is no activation
    pub beyond_stored : length all ≤ place.activation - 1 → first ∷ map activation_in all ≡ Stores.stored (first ∷ map activation_in all) place w
    beyond_stored beyond =
        let others = map activation_in all in
        let count = length-map all activation_in in
        ap (λ s. first ∷ s) (stored_beyond others (place.activation - 1) (Stores.with_held (Stores.activation_at others (place.activation - 1)) place.position place.path w) (omega (arith, beyond, count)))
        ∙ ap (λ k. Stores.stored (first ∷ others) (record { activation = k; position = place.position; path = place.path }) w) one_more
