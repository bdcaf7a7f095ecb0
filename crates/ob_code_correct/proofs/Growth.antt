-- Stores with more positions behind the last one, and without them: places, addresses and words of the others stay.
use Rattle.std.proofs.Common.{◌≡◌, ℕ, zero, suc, pred, ◌+◌, ◌<◌, ◌≤◌, ℤ, pos, List, [], ◌∷◌, ◌++◌, length, take, refl, sym, ap, ◌∙◌, subst, append_assoc, append-nil, length-append, arith}
use Rattle.std.proofs.lemmas.List.{take_at}
use Rattle.ob_typing.specs.Program.{DataType}
use Rattle.ob_meaning.specs.ByPositionStore.{Place, Held, Holds, Refers, Activation, Store, activation_at}
use Rattle.ob_code_scheme.specs.Types.{inner, Space, Holding, Referring, Scope, extent, word_in, type_at, base, total, scope_at, address, IsPlaceIn, IsPlace, FitsHeld, FitsActivation, FitsFrom, Fits}
use Rattle.ob_code_scheme.specs.Image.{held_words, position_words, store_words}
use Rattle.ob_code_correct.proofs.Located.{length-position}
use Rattle.ob_code_correct.proofs.Found.{length-from}

-- ---- scopes

pub scope_at-append : (scopes more : List Scope) (k : ℕ) → k < length scopes → scope_at (scopes ++ more) k ≡ scope_at scopes k
scope_at-append [] more k below = absurd (omega (arith, below))
scope_at-append (s ∷ scopes) more zero below = refl
scope_at-append (s ∷ scopes) more (suc k) below = scope_at-append scopes more k (omega (arith, below))

pub scope_at-last : (scopes : List Scope) (s : Scope) → scope_at (scopes ++ s ∷ []) (length scopes) ≡ s
scope_at-last [] s = refl
scope_at-last (r ∷ scopes) s = scope_at-last scopes s

pub base-append : (scopes more : List Scope) (k : ℕ) → k < length scopes → base (scopes ++ more) k ≡ base scopes k
base-append [] more k below = absurd (omega (arith, below))
base-append (s ∷ scopes) more zero below = refl
base-append (s ∷ scopes) more (suc k) below = ap (λ (m : ℕ). extent s + m) (base-append scopes more k (omega (arith, below)))

-- the first word behind some scopes
pub base-length : (scopes more : List Scope) → base (scopes ++ more) (length scopes) ≡ total scopes
base-length [] [] = refl
base-length [] (s ∷ more) = refl
base-length (s ∷ scopes) more = ap (λ (m : ℕ). extent s + m) (base-length scopes more)

pub total-append : (scopes more : List Scope) → total (scopes ++ more) ≡ total scopes + total more
total-append [] more = let e : total more ≡ 0 + total more = omega arith in e
total-append (s ∷ scopes) more = let rest = total-append scopes more in omega (arith, rest)

-- ---- places

-- a place is of one of the scopes
pub place_below : (scopes : List Scope) (k position : ℕ) (path : List ℕ) (type : DataType) → IsPlaceIn (scope_at scopes k) position path type → k < length scopes
place_below [] k position path type h = absurd h
place_below (s ∷ scopes) zero position path type h = omega arith
place_below (s ∷ scopes) (suc k) position path type h = let rest = place_below scopes k position path type h in omega (arith, rest)

module _ (scopes more : List Scope) where
  pub is_place_more : (q : Place) (type : DataType) → IsPlace scopes q type → IsPlace (scopes ++ more) q type
  is_place_more q type h =
      subst (λ (s : Scope). IsPlaceIn s q.position q.path type) (sym (scope_at-append scopes more q.activation (place_below scopes q.activation q.position q.path type h))) h

  pub is_place_fewer : (q : Place) (type : DataType) → q.activation < length scopes → IsPlace (scopes ++ more) q type → IsPlace scopes q type
  is_place_fewer q type below h = subst (λ (s : Scope). IsPlaceIn s q.position q.path type) (scope_at-append scopes more q.activation below) h

  pub address_same : (q : Place) → q.activation < length scopes → address (scopes ++ more) q ≡ address scopes q
  address_same q below =
      ap (λ (b : ℕ). b + (word_in (scope_at (scopes ++ more) q.activation) q.position + inner (type_at (scope_at (scopes ++ more) q.activation) q.position) q.path)) (base-append scopes more q.activation below)
      ∙ ap (λ (s : Scope). base scopes q.activation + (word_in s q.position + inner (type_at s q.position) q.path)) (scope_at-append scopes more q.activation below)

  -- ---- what fits

  pub fits_held_more : (k : ℕ) (s : Space) (h : Held) → FitsHeld scopes k s h → FitsHeld (scopes ++ more) k s h
  fits_held_more k (Holding type) (Holds v) h = h
  fits_held_more k (Holding type) (Refers place) h = absurd h
  fits_held_more k (Referring type) (Holds v) h = absurd h
  fits_held_more k (Referring type) (Refers place) h = (h.0, is_place_more place type h.1)

  pub fits_activation_more : (k : ℕ) (scope : Scope) (a : Activation) → FitsActivation scopes k scope a → FitsActivation (scopes ++ more) k scope a
  fits_activation_more k [] [] h = tt
  fits_activation_more k [] (x ∷ a) h = absurd h
  fits_activation_more k (s ∷ scope) [] h = absurd h
  fits_activation_more k (s ∷ scope) (x ∷ a) h = (fits_held_more k s x h.0, fits_activation_more k scope a h.1)

  pub fits_from_more : (k : ℕ) (these : List Scope) (store : Store) → FitsFrom scopes k these store → FitsFrom (scopes ++ more) k these store
  fits_from_more k [] [] h = tt
  fits_from_more k [] (a ∷ store) h = absurd h
  fits_from_more k (s ∷ these) [] h = absurd h
  fits_from_more k (s ∷ these) (a ∷ store) h = (fits_activation_more k s a h.0, fits_from_more (suc k) these store h.1)

  pub fits_held_fewer : (k : ℕ) → k ≤ length scopes → (s : Space) (h : Held) → FitsHeld (scopes ++ more) k s h → FitsHeld scopes k s h
  fits_held_fewer k few (Holding type) (Holds v) h = h
  fits_held_fewer k few (Holding type) (Refers place) h = absurd h
  fits_held_fewer k few (Referring type) (Holds v) h = absurd h
  fits_held_fewer k few (Referring type) (Refers place) h = (h.0, is_place_fewer place type (omega (arith, few, h.0)) h.1)

  pub fits_activation_fewer : (k : ℕ) → k ≤ length scopes → (scope : Scope) (a : Activation) → FitsActivation (scopes ++ more) k scope a → FitsActivation scopes k scope a
  fits_activation_fewer k few [] [] h = tt
  fits_activation_fewer k few [] (x ∷ a) h = absurd h
  fits_activation_fewer k few (s ∷ scope) [] h = absurd h
  fits_activation_fewer k few (s ∷ scope) (x ∷ a) h = (fits_held_fewer k few s x h.0, fits_activation_fewer k few scope a h.1)

  pub fits_from_fewer : (k : ℕ) (these : List Scope) (store : Store) → k + length these ≤ length scopes → FitsFrom (scopes ++ more) k these store → FitsFrom scopes k these store
  fits_from_fewer k [] [] few h = tt
  fits_from_fewer k [] (a ∷ store) few h = absurd h
  fits_from_fewer k (s ∷ these) [] few h = absurd h
  fits_from_fewer k (s ∷ these) (a ∷ store) few h =
      (fits_activation_fewer k (omega (arith, few)) s a h.0, fits_from_fewer (suc k) these store (omega (arith, few)) h.1)

  -- ---- words

  pub held_words_same : (k : ℕ) (s : Space) (h : Held) → FitsHeld scopes k s h → held_words (scopes ++ more) h ≡ held_words scopes h
  held_words_same k (Holding type) (Holds v) h = refl
  held_words_same k (Holding type) (Refers place) h = absurd h
  held_words_same k (Referring type) (Holds v) h = absurd h
  held_words_same k (Referring type) (Refers place) h =
      ap (λ (n : ℕ). pos n ∷ []) (address_same place (place_below scopes place.activation place.position place.path type h.1))

  pub position_words_same : (k : ℕ) (scope : Scope) (a : Activation) → FitsActivation scopes k scope a → position_words (scopes ++ more) a ≡ position_words scopes a
  position_words_same k [] [] h = refl
  position_words_same k [] (x ∷ a) h = absurd h
  position_words_same k (s ∷ scope) [] h = absurd h
  position_words_same k (s ∷ scope) (x ∷ a) h =
      ap (λ (ws : List ℤ). ws ++ position_words (scopes ++ more) a) (held_words_same k s x h.0)
      ∙ ap (λ (ws : List ℤ). held_words scopes x ++ ws) (position_words_same k scope a h.1)

  pub store_words_same : (k : ℕ) (these : List Scope) (store : Store) → FitsFrom scopes k these store → store_words (scopes ++ more) store ≡ store_words scopes store
  store_words_same k [] [] h = refl
  store_words_same k [] (a ∷ store) h = absurd h
  store_words_same k (s ∷ these) [] h = absurd h
  store_words_same k (s ∷ these) (a ∷ store) h =
      ap (λ (ws : List ℤ). ws ++ store_words (scopes ++ more) store) (position_words_same k s a h.0)
      ∙ ap (λ (ws : List ℤ). position_words scopes a ++ ws) (store_words_same (suc k) these store h.1)

-- ---- lists of positions, one behind the other

pub position_words-append : (all : List Scope) (a b : Activation) → position_words all (a ++ b) ≡ position_words all a ++ position_words all b
position_words-append all [] b = refl
position_words-append all (x ∷ a) b =
    ap (λ (ws : List ℤ). held_words all x ++ ws) (position_words-append all a b) ∙ sym (append_assoc (held_words all x) (position_words all a) (position_words all b))

pub store_words-append : (all : List Scope) (s t : Store) → store_words all (s ++ t) ≡ store_words all s ++ store_words all t
store_words-append all [] t = refl
store_words-append all (a ∷ s) t =
    ap (λ (ws : List ℤ). position_words all a ++ ws) (store_words-append all s t) ∙ sym (append_assoc (position_words all a) (store_words all s) (store_words all t))

pub fits_activation-append : (all : List Scope) (k : ℕ) (r s : Scope) (a b : Activation) → FitsActivation all k r a → FitsActivation all k s b → FitsActivation all k (r ++ s) (a ++ b)
fits_activation-append all k [] s [] b h g = g
fits_activation-append all k [] s (x ∷ a) b h g = absurd h
fits_activation-append all k (x ∷ r) s [] b h g = absurd h
fits_activation-append all k (y ∷ r) s (x ∷ a) b h g = (h.0, fits_activation-append all k r s a b h.1 g)

pub fits_from-append : (all : List Scope) (k : ℕ) (these more : List Scope) (s t : Store) → FitsFrom all k these s → FitsFrom all (k + length these) more t → FitsFrom all k (these ++ more) (s ++ t)
fits_from-append all k [] more [] t h g = let e : k + 0 ≡ k = omega arith in subst (λ (n : ℕ). FitsFrom all n more t) e g
fits_from-append all k [] more (a ∷ s) t h g = absurd h
fits_from-append all k (r ∷ these) more [] t h g = absurd h
fits_from-append all k (r ∷ these) more (a ∷ s) t h g =
    let e : k + length (r ∷ these) ≡ suc k + length these = omega arith in
    (h.0, fits_from-append all (suc k) these more s t h.1 (subst (λ (n : ℕ). FitsFrom all n more t) e g))

-- ---- the last position

-- a store with a last position
pub record EndsWith (all : List Scope) (k : ℕ) (scopes : List Scope) (s : Scope) (store : Store) : Type 0 where
  pub front : Store
  pub last : Activation
  pub store_is : store ≡ front ++ last ∷ []
  pub front_fits : FitsFrom all k scopes front
  pub last_fits : FitsActivation all (k + length scopes) s last

pub ends_with : (all : List Scope) (k : ℕ) (scopes : List Scope) (s : Scope) (store : Store) → FitsFrom all k (scopes ++ s ∷ []) store → EndsWith all k scopes s store
ends_with all k [] s [] h = absurd h
ends_with all k [] s (a ∷ []) h =
    let e : k ≡ k + 0 = omega arith in
    record { front = []; last = a; store_is = refl; front_fits = tt; last_fits = subst (λ (n : ℕ). FitsActivation all n s a) e h.0 }
ends_with all k [] s (a ∷ b ∷ store) h = absurd h.1
ends_with all k (r ∷ scopes) s [] h = absurd h
ends_with all k (r ∷ scopes) s (a ∷ store) h =
    let rest = ends_with all (suc k) scopes s store h.1 in
    let e : suc k + length scopes ≡ k + length (r ∷ scopes) = omega arith in
    record {
      front = a ∷ rest.front;
      last = rest.last;
      store_is = ap (λ (t : Store). a ∷ t) rest.store_is;
      front_fits = (h.0, rest.front_fits);
      last_fits = subst (λ (n : ℕ). FitsActivation all n s rest.last) e rest.last_fits;
    }

-- all but the last
pub take-last : (front : Store) (a : Activation) → take (pred (length (front ++ a ∷ []))) (front ++ a ∷ []) ≡ front
take-last front a =
    let n : length (front ++ a ∷ []) ≡ suc (length front) = omega (arith, length-append front (a ∷ [])) in
    take_at front (a ∷ []) (pred (length (front ++ a ∷ []))) (sym (ap pred n))

-- ---- whole stores

-- the words of the first position
pub first_length : (scopes : List Scope) (store : Store) → Fits scopes store → length (position_words scopes (activation_at store 0)) ≡ extent (scope_at scopes 0)
first_length [] [] h = refl
first_length [] (a ∷ store) h = absurd h.from
first_length (s ∷ scopes) [] h = absurd h.from
first_length (s ∷ scopes) (a ∷ store) h = length-position (s ∷ scopes) 0 s a h.from.0

-- with a last activation that fits its scope, its words come behind all others
pub grown_store : (scopes : List Scope) (own : Scope) (store : Store) (a : Activation) → Fits scopes store → FitsActivation scopes (length scopes) own a →
    Fits (scopes ++ own ∷ []) (store ++ a ∷ []) × (store_words (scopes ++ own ∷ []) (store ++ a ∷ []) ≡ store_words scopes store ++ position_words scopes a)
grown_store scopes own store a h g =
    let more = own ∷ [] in
    let none : length scopes ≡ 0 + length scopes = omega arith in
    let last : FitsActivation (scopes ++ more) (0 + length scopes) own a = subst (λ (n : ℕ). FitsActivation (scopes ++ more) n own a) none (fits_activation_more scopes more (length scopes) own a g) in (
      record { from = fits_from-append (scopes ++ more) 0 scopes more store (a ∷ []) (fits_from_more scopes more 0 scopes store h.from) (last, tt) },
      store_words-append (scopes ++ more) store (a ∷ [])
          ∙ ap (λ (ws : List ℤ). ws ++ (position_words (scopes ++ more) a ++ [])) (store_words_same scopes more 0 scopes store h.from)
          ∙ ap (λ (ws : List ℤ). store_words scopes store ++ ws) (append-nil (position_words (scopes ++ more) a) ∙ position_words_same scopes more (length scopes) own a g),
    )

-- without the last activation, the words are cut where its words began
pub shrunk_store : (scopes : List Scope) (own : Scope) (store : Store) → Fits (scopes ++ own ∷ []) store →
    Fits scopes (take (pred (length store)) store) × (store_words scopes (take (pred (length store)) store) ≡ take (total scopes) (store_words (scopes ++ own ∷ []) store))
shrunk_store scopes own store h =
    let more = own ∷ [] in
    let e = ends_with (scopes ++ more) 0 scopes own store h.from in
    let fits : FitsFrom scopes 0 scopes e.front = fits_from_fewer scopes more 0 scopes e.front (omega arith) e.front_fits in
    let cut : take (pred (length store)) store ≡ e.front = ap (λ (t : Store). take (pred (length t)) t) e.store_is ∙ take-last e.front e.last in (
      subst (λ (t : Store). Fits scopes t) (sym cut) (record { from = fits }),
      ap (store_words scopes) cut
          ∙ sym (store_words_same scopes more 0 scopes e.front fits)
          ∙ sym (take_at (store_words (scopes ++ more) e.front) (store_words (scopes ++ more) (e.last ∷ [])) (total scopes) (length-from (scopes ++ more) 0 scopes e.front e.front_fits))
          ∙ ap (take (total scopes)) (sym (store_words-append (scopes ++ more) e.front (e.last ∷ [])))
          ∙ ap (λ (t : Store). take (total scopes) (store_words (scopes ++ more) t)) (sym e.store_is),
    )
