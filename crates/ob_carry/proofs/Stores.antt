-- Stores in which nothing refers to the module's variables, and what keeps them so.
use Rattle.std.proofs.Common.{◌≡◌, ap, sym, subst, ◌∙◌, arith, ℕ, zero, suc, pred, List, [], ◌∷◌, ◌++◌, length, take}
use Rattle.std.specs.Prelude.{slice_get, slice_set}
use Rattle.std.specs.List.{AllByRecursion}
use Rattle.std.proofs.lemmas.List.{length-set, length-append, length-take}
use Rattle.ob_typing.specs.Program.{Own, Slot, Designator, Designated, Actual, ByValue, ByPlace, Variable, Procedure}
use Rattle.ob_typing.specs.Arithmetic.{Evaluated, Gives, Traps, ◌>>=◌}
use Rattle.ob_meaning.specs.ByPositionValue.{Value}
use Rattle.ob_meaning.specs.ByPositionStore.{Place, Held, Holds, Refers, Activation, Store, the_activation, activation_at, held_at, place_held, place_owned, running, with_value, with_held, stored, begun, activation_of}
use Rattle.ob_meaning.specs.ByPositionEvaluation.{path_of, place_of, value_of, handed, all_handed}
use Rattle.ob_carry.specs.ReadOnly.{IsOwn, HandsOwn}

-- a place outside the module's variables
abbrev pub IsBehind : Place → Type 0
IsBehind place = (k : ℕ) × (place.activation ≡ suc k)

-- a value, or such a place
abbrev pub Spares : Held → Type 0
Spares (Holds v) = Unit {0}
Spares (Refers place) = IsBehind place

abbrev pub AllSpare : Activation → Type 0
AllSpare = AllByRecursion Spares

abbrev pub EachSpares : Store → Type 0
EachSpares = AllByRecursion AllSpare

-- the module has this state, n more activations and one that is running lie behind it, and none of them refers to the module
pub record Spared (state : Activation) (n : ℕ) (store : Store) : Type 0 where
  pub behind : Store
  pub whole : store ≡ state ∷ behind
  pub size : length behind ≡ suc n
  pub spare : EachSpares behind

joined : {X : Type 0} (P : X → Type 0) (xs ys : List X) → AllByRecursion P xs → AllByRecursion P ys → AllByRecursion P (xs ++ ys)
joined P [] ys h k = k
joined P (x ∷ xs) ys h k = (h.0, joined P xs ys h.1 k)

cut : {X : Type 0} (P : X → Type 0) (n : ℕ) (xs : List X) → AllByRecursion P xs → AllByRecursion P (take n xs)
cut P zero xs h = tt
cut P (suc n) [] h = tt
cut P (suc n) (x ∷ xs) h = (h.0, cut P n xs h.1)

replaced_at : {X : Type 0} (P : X → Type 0) (xs : List X) (i : ℕ) (y : X) → P y → AllByRecursion P xs → AllByRecursion P (slice_set xs i y)
replaced_at P [] i y p h = tt
replaced_at P (x ∷ xs) zero y p h = (p, h.1)
replaced_at P (x ∷ xs) (suc i) y p h = (h.0, replaced_at P xs i y p h.1)

activation_spares : (behind : Store) (k : ℕ) → EachSpares behind → AllSpare (the_activation (slice_get behind k))
activation_spares [] k h = tt
activation_spares (a ∷ behind) zero h = h.0
activation_spares (a ∷ behind) (suc k) h = activation_spares behind k h.1

held_spares : (a : Activation) (position : ℕ) → AllSpare a → Spares (held_at a position)
held_spares [] position h = tt
held_spares (x ∷ a) zero h = h.0
held_spares (x ∷ a) (suc position) h = held_spares a position h.1

value_spares : (h : Held) (path : List ℕ) (w : Value) → Spares h → Spares (with_value h path w)
value_spares (Holds v) path w s = tt
value_spares (Refers place) path w s = s

written_spares : (a : Activation) (position : ℕ) (path : List ℕ) (w : Value) → AllSpare a → AllSpare (with_held a position path w)
written_spares [] position path w h = tt
written_spares (x ∷ a) zero path w h = (value_spares x path w h.0, h.1)
written_spares (x ∷ a) (suc position) path w h = (h.0, written_spares a position path w h.1)

begun_spare : (variables : List Variable) → AllSpare (begun variables)
begun_spare [] = tt
begun_spare (v ∷ variables) = (tt, begun_spare variables)

pub activation_begun : (p : Procedure) (hs : List Held) → AllSpare hs → AllSpare (activation_of p hs)
activation_begun p hs h = joined Spares hs (begun p.variables) h (begun_spare p.variables)

module _ (state : Activation) (n : ℕ) where
  -- a write outside the module's variables
  pub spared_stored : (store : Store) (place : Place) (w : Value) → Spared state n store → IsBehind place → Spared state n (stored store place w)
  spared_stored store place w s b =
      let next = slice_set s.behind b.0 (with_held (the_activation (slice_get s.behind b.0)) place.position place.path w) in
      record {
        behind = next;
        whole = ap (λ k. slice_set store k (with_held (activation_at store k) place.position place.path w)) b.1
            ∙ ap (λ x. slice_set x (suc b.0) (with_held (activation_at x (suc b.0)) place.position place.path w)) s.whole;
        size = length-set s.behind b.0 _ ∙ s.size;
        spare = replaced_at AllSpare s.behind b.0 _ (written_spares _ place.position place.path w (activation_spares s.behind b.0 s.spare)) s.spare;
      }

  pub spared_entered : (store : Store) (a : Activation) → Spared state n store → AllSpare a → Spared state (suc n) (store ++ a ∷ [])
  spared_entered store a s h =
      record {
        behind = s.behind ++ a ∷ [];
        whole = ap (λ x. x ++ a ∷ []) s.whole;
        size = let l = length-append s.behind (a ∷ []) in let m = s.size in omega (arith, l, m);
        spare = joined AllSpare s.behind (a ∷ []) s.spare (h, tt);
      }

  pub spared_departed : (store : Store) → Spared state (suc n) store → Spared state n (take (pred (length store)) store)
  spared_departed store s =
      record {
        behind = take (suc n) s.behind;
        whole = ap (λ x. take (pred (length x)) x) s.whole ∙ ap (λ k. take k (state ∷ s.behind)) s.size;
        size = let l = length-take (suc n) s.behind in let m = s.size in omega (arith, l, m);
        spare = cut AllSpare (suc n) s.behind s.spare;
      }

  running_spares : (store : Store) → Spared state n store → (k : ℕ) × (running store ≡ suc k) × AllSpare (activation_at store (running store))
  running_spares store s =
      let last : running store ≡ suc n = ap (λ x. pred (length x)) s.whole ∙ s.size in
      (n, last, subst AllSpare (sym (ap (λ k. activation_at store k) last ∙ ap (λ x. activation_at x (suc n)) s.whole)) (activation_spares s.behind n s.spare))

-- what a position of an activation behind the module stands for
held_behind : (h : Held) (k position : ℕ) → Spares h → (n : ℕ) → k ≡ suc n → IsBehind (place_held h k position)
held_behind (Holds v) k position s n e = (n, e)
held_behind (Refers place) k position s n e = s

-- a fact of what is evaluated, where it doesn't trap
abbrev pub Where : {A : Type 0} → (A → Type 0) → Evaluated A → Type 0
Where P (Gives a) = P a
Where P (Traps k) = Unit {0}

where_then : {A B : Type 0} (P : A → Type 0) (Q : B → Type 0) (v : Evaluated A) (go : A → Evaluated B) → Where P v → ((a : A) → P a → Where Q (go a)) → Where Q (◌>>=◌ v go)
where_then P Q (Gives a) go h g = g a h
where_then P Q (Traps k) go h g = tt

anything : {A : Type 0} (v : Evaluated A) → Where (λ a. Unit {0}) v
anything (Gives a) = tt
anything (Traps k) = tt

module _ (state : Activation) (n : ℕ) (store : Store) (s : Spared state n store) where
  slot_behind : (slot : Slot) → slot.owner ≡ Own → IsBehind (place_owned slot.owner store slot.position)
  slot_behind slot own =
      let r = running_spares state n store s in
      subst (λ o. IsBehind (place_owned o store slot.position)) (sym own)
      (held_behind (held_at (activation_at store (running store)) slot.position) (running store) slot.position (held_spares _ slot.position r.2) r.0 r.1)

  pub place_behind : (d : Designator) → IsOwn d → Where IsBehind (place_of store d)
  place_behind (Designated slot selectors) own =
      where_then (λ path. Unit {0}) IsBehind (path_of store selectors) _ (anything (path_of store selectors)) (λ path _. slot_behind slot own)

  handed_spares : (a : Actual) → HandsOwn a → Where Spares (handed store a)
  handed_spares (ByValue e) own = where_then (λ v. Unit {0}) Spares (value_of store e) _ (anything (value_of store e)) (λ v _. tt)
  handed_spares (ByPlace d) own = where_then IsBehind Spares (place_of store d) _ (place_behind d own) (λ place b. b)

  pub all_handed_spare : (actuals : List Actual) → AllByRecursion HandsOwn actuals → Where AllSpare (all_handed store actuals)
  all_handed_spare [] own = tt
  all_handed_spare (a ∷ actuals) own =
      where_then Spares AllSpare (handed store a) _ (handed_spares a own.0)
      (λ h sh. where_then AllSpare AllSpare (all_handed store actuals) _ (all_handed_spare actuals own.1) (λ hs shs. (sh, shs)))
