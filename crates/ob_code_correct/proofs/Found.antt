-- The words of a place of a store among those of the whole store, and those of a reference.
use Rattle.std.proofs.Common.{◌≡◌, ℕ, zero, suc, ◌+◌, ◌<◌, ℤ, pos, List, [], ◌∷◌, ◌++◌, length, refl, sym, ap, ◌∙◌, subst, append_assoc, length-append, arith}
use Rattle.std.specs.Prelude.{slice_set}
use Rattle.ob_typing.specs.Program.{DataType}
use Rattle.ob_meaning.specs.ByPositionValue.{Value, selected}
use Rattle.ob_meaning.specs.ByPositionStore.{Place, Holds, Refers, Activation, Store, activation_at, held_at, value_held, with_held}
use Rattle.ob_code_scheme.specs.Types.{inner, Holding, Referring, Scope, extent, word_in, space_at, type_at, base, total, scope_at, address, IsValueOf, IsPlaceIn, IsPlace, FitsActivation, FitsFrom}
use Rattle.ob_code_scheme.specs.WellFormed.{HasPosition}
use Rattle.ob_code_scheme.specs.Layout.{flat}
use Rattle.ob_code_scheme.specs.Image.{position_words, store_words}
use Rattle.ob_code_correct.proofs.Located.{length-position, Located, located, Kind, own_value, reference, kind}

module _ (all : List Scope) where
  pub length-from : (k : ℕ) (scopes : List Scope) (store : Store) → FitsFrom all k scopes store → length (store_words all store) ≡ total scopes
  length-from k [] [] h = refl
  length-from k [] (a ∷ store) h = absurd h
  length-from k (s ∷ scopes) [] h = absurd h
  length-from k (s ∷ scopes) (a ∷ store) h =
      length-append (position_words all a) (store_words all store)
      ∙ ap (λ (m : ℕ). m + length (store_words all store)) (length-position all k s a h.0)
      ∙ ap (λ (m : ℕ). extent s + m) (length-from (suc k) scopes store h.1)

  -- as many positions as scopes
  pub same_count : (k : ℕ) (scopes : List Scope) (store : Store) → FitsFrom all k scopes store → length store ≡ length scopes
  same_count k [] [] h = refl
  same_count k [] (a ∷ store) h = absurd h
  same_count k (s ∷ scopes) [] h = absurd h
  same_count k (s ∷ scopes) (a ∷ store) h = ap suc (same_count (suc k) scopes store h.1)

  -- ---- a place

  -- the words of a place, with those before and behind it, and what another value there changes
  pub record Found (k : ℕ) (scopes : List Scope) (store : Store) (j position : ℕ) (path : List ℕ) (type : DataType) : Type 0 where
    pub typed : IsValueOf type (selected (value_held (held_at (activation_at store j) position)) path)
    pub front : List ℤ
    pub back : List ℤ
    pub count : length front ≡ base scopes j + (word_in (scope_at scopes j) position + inner (type_at (scope_at scopes j) position) path)
    pub words_are : store_words all store ≡ front ++ (flat (selected (value_held (held_at (activation_at store j) position)) path) ++ back)
    pub changed : (w : Value) → store_words all (slice_set store j (with_held (activation_at store j) position path w)) ≡ front ++ (flat w ++ back)
    pub kept : (w : Value) → IsValueOf type w → FitsFrom all k scopes (slice_set store j (with_held (activation_at store j) position path w))

  found_here : (k : ℕ) (s : Scope) (scopes : List Scope) (a : Activation) (store : Store) (position : ℕ) (path : List ℕ) (type : DataType) →
      FitsFrom all (suc k) scopes store → Located all k s a position path type → Found k (s ∷ scopes) (a ∷ store) zero position path type
  found_here k s scopes a store position path type h l =
      let others = store_words all store in
      let v = selected (value_held (held_at a position)) path in
      let n : ℕ = word_in s position + inner (type_at s position) path in
      let e : n ≡ 0 + n = omega arith in
      record {
        typed = l.typed;
        front = l.front;
        back = l.back ++ others;
        count = l.count ∙ e;
        words_are = ap (λ (ws : List ℤ). ws ++ others) l.words_are
            ∙ append_assoc l.front (flat v ++ l.back) others
            ∙ ap (λ (ws : List ℤ). l.front ++ ws) (append_assoc (flat v) l.back others);
        changed = λ w. ap (λ (ws : List ℤ). ws ++ others) (l.changed w)
            ∙ append_assoc l.front (flat w ++ l.back) others
            ∙ ap (λ (ws : List ℤ). l.front ++ ws) (append_assoc (flat w) l.back others);
        kept = λ w typed. (l.kept w typed, h);
      }

  found_later : (k : ℕ) (s : Scope) (scopes : List Scope) (a : Activation) (store : Store) (j position : ℕ) (path : List ℕ) (type : DataType) →
      FitsActivation all k s a → Found (suc k) scopes store j position path type → Found k (s ∷ scopes) (a ∷ store) (suc j) position path type
  found_later k s scopes a store j position path type h f =
      let here = position_words all a in
      let same : length here ≡ extent s = length-position all k s a h in
      record {
        typed = f.typed;
        front = here ++ f.front;
        back = f.back;
        count = omega (arith, length-append here f.front, same, f.count);
        words_are = ap (λ (ws : List ℤ). here ++ ws) f.words_are
            ∙ sym (append_assoc here f.front (flat (selected (value_held (held_at (activation_at store j) position)) path) ++ f.back));
        changed = λ w. ap (λ (ws : List ℤ). here ++ ws) (f.changed w) ∙ sym (append_assoc here f.front (flat w ++ f.back));
        kept = λ w typed. (h, f.kept w typed);
      }

  pub find : (k : ℕ) (scopes : List Scope) (store : Store) (j position : ℕ) (path : List ℕ) (type : DataType) → FitsFrom all k scopes store → IsPlaceIn (scope_at scopes j) position path type →
      Found k scopes store j position path type
  find k [] store j position path type h is = absurd is
  find k (s ∷ scopes) [] j position path type h is = absurd h
  find k (s ∷ scopes) (a ∷ store) zero position path type h is = found_here k s scopes a store position path type h.1 (located all k s a position path type h.0 is)
  find k (s ∷ scopes) (a ∷ store) (suc j) position path type h is = found_later k s scopes a store j position path type h.0 (find (suc k) scopes store j position path type h.1 is)

  -- ---- a reference

  -- the word of a reference, with those before and behind it
  pub record FoundReference (k : ℕ) (scopes : List Scope) (store : Store) (j position : ℕ) (type : DataType) : Type 0 where
    pub place : Place
    pub held : held_at (activation_at store j) position ≡ Refers place
    pub before : place.activation < k + j
    pub is_place : IsPlace all place type
    pub front : List ℤ
    pub back : List ℤ
    pub count : length front ≡ base scopes j + word_in (scope_at scopes j) position
    pub words_are : store_words all store ≡ front ++ (pos (address all place) ∷ back)

  -- a position has a value of its own, and then is a place, or a reference to one
  pub data FoundKind (k : ℕ) (scopes : List Scope) (store : Store) (j position : ℕ) : Type 0 where
    value_there : (type : DataType) → space_at (scope_at scopes j) position ≡ Holding type → IsPlaceIn (scope_at scopes j) position [] type → (v : Value) → held_at (activation_at store j) position ≡ Holds v →
        FoundKind k scopes store j position
    reference_there : (type : DataType) → space_at (scope_at scopes j) position ≡ Referring type → FoundReference k scopes store j position type → FoundKind k scopes store j position

  kind_here : (k : ℕ) (s : Scope) (scopes : List Scope) (a : Activation) (store : Store) (position : ℕ) → Kind all k s a position → FoundKind k (s ∷ scopes) (a ∷ store) zero position
  kind_here k s scopes a store position (own_value type is place v held) = value_there type is place v held
  kind_here k s scopes a store position (reference type is r) =
      let others = store_words all store in
      let n : ℕ = word_in s position in
      let e : n ≡ 0 + n = omega arith in
      let same : k ≡ k + zero = omega arith in
      reference_there type is (record {
        place = r.place;
        held = r.held;
        before = subst (λ (m : ℕ). r.place.activation < m) same r.before;
        is_place = r.is_place;
        front = r.front;
        back = r.back ++ others;
        count = r.count ∙ e;
        words_are = ap (λ (ws : List ℤ). ws ++ others) r.words_are ∙ append_assoc r.front (pos (address all r.place) ∷ r.back) others;
      })

  kind_later : (k : ℕ) (s : Scope) (scopes : List Scope) (a : Activation) (store : Store) (j position : ℕ) → FitsActivation all k s a → FoundKind (suc k) scopes store j position →
      FoundKind k (s ∷ scopes) (a ∷ store) (suc j) position
  kind_later k s scopes a store j position h (value_there type is place v held) = value_there type is place v held
  kind_later k s scopes a store j position h (reference_there type is r) =
      let here = position_words all a in
      let same : length here ≡ extent s = length-position all k s a h in
      let e : suc k + j ≡ k + suc j = omega arith in
      reference_there type is (record {
        place = r.place;
        held = r.held;
        before = subst (λ (m : ℕ). r.place.activation < m) e r.before;
        is_place = r.is_place;
        front = here ++ r.front;
        back = r.back;
        count = omega (arith, length-append here r.front, same, r.count);
        words_are = ap (λ (ws : List ℤ). here ++ ws) r.words_are ∙ sym (append_assoc here r.front (pos (address all r.place) ∷ r.back));
      })

  pub kind_of : (k : ℕ) (scopes : List Scope) (store : Store) (j position : ℕ) → FitsFrom all k scopes store → HasPosition (scope_at scopes j) position → FoundKind k scopes store j position
  kind_of k [] store j position h has = absurd has
  kind_of k (s ∷ scopes) [] j position h has = absurd h
  kind_of k (s ∷ scopes) (a ∷ store) zero position h has = kind_here k s scopes a store position (kind all k s a position h.0 has)
  kind_of k (s ∷ scopes) (a ∷ store) (suc j) position h has = kind_later k s scopes a store j position h.0 (kind_of (suc k) scopes store j position h.1 has)
