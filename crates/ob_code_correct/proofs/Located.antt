-- The words of a place of an activation among those of the whole activation, and those of a reference.
use Rattle.std.proofs.Common.{◌≡◌, ℕ, zero, suc, ◌+◌, ◌<◌, ℤ, pos, List, [], ◌∷◌, ◌++◌, length, refl, sym, ap, ◌∙◌, append_assoc, length-append, arith}
use Rattle.ob_typing.specs.Program.{DataType}
use Rattle.ob_meaning.specs.ByPositionValue.{Value, selected}
use Rattle.ob_meaning.specs.ByPositionStore.{Place, Held, Holds, Refers, Activation, held_at, value_held, with_held}
use Rattle.ob_code_scheme.specs.Types.{inner, Space, Holding, Referring, Scope, width, extent, word_in, space_at, type_at, address, IsValueOf, IsPlaceIn, IsPlace, FitsHeld, FitsActivation}
use Rattle.ob_code_scheme.specs.WellFormed.{HasPosition}
use Rattle.ob_code_scheme.specs.Layout.{flat}
use Rattle.ob_code_scheme.specs.Image.{held_words, position_words}
use Rattle.ob_code_correct.proofs.Values.{length-flat, Within, within}

module _ (all : List Scope) (k : ℕ) where
  pub length-held : (s : Space) (h : Held) → FitsHeld all k s h → length (held_words all h) ≡ width s
  length-held (Holding type) (Holds v) h = length-flat type v h
  length-held (Holding type) (Refers place) h = absurd h
  length-held (Referring type) (Holds v) h = absurd h
  length-held (Referring type) (Refers place) h = refl

  pub length-position : (scope : Scope) (a : Activation) → FitsActivation all k scope a → length (position_words all a) ≡ extent scope
  length-position [] [] h = refl
  length-position [] (x ∷ a) h = absurd h
  length-position (s ∷ scope) [] h = absurd h
  length-position (s ∷ scope) (x ∷ a) h =
      length-append (held_words all x) (position_words all a)
      ∙ ap (λ (m : ℕ). m + length (position_words all a)) (length-held s x h.0)
      ∙ ap (λ (m : ℕ). width s + m) (length-position scope a h.1)

  -- as many positions as spaces
  pub same_length : (scope : Scope) (a : Activation) → FitsActivation all k scope a → length a ≡ length scope
  same_length [] [] h = refl
  same_length [] (x ∷ a) h = absurd h
  same_length (s ∷ scope) [] h = absurd h
  same_length (s ∷ scope) (x ∷ a) h = ap suc (same_length scope a h.1)

  -- ---- a place

  -- the words of a place, with those before and behind it, and what another value there changes
  pub record Located (scope : Scope) (a : Activation) (position : ℕ) (path : List ℕ) (type : DataType) : Type 0 where
    pub typed : IsValueOf type (selected (value_held (held_at a position)) path)
    pub front : List ℤ
    pub back : List ℤ
    pub count : length front ≡ word_in scope position + inner (type_at scope position) path
    pub words_are : position_words all a ≡ front ++ (flat (selected (value_held (held_at a position)) path) ++ back)
    pub changed : (w : Value) → position_words all (with_held a position path w) ≡ front ++ (flat w ++ back)
    pub kept : (w : Value) → IsValueOf type w → FitsActivation all k scope (with_held a position path w)

  located_first : (whole : DataType) (v : Value) (scope : Scope) (a : Activation) (path : List ℕ) (type : DataType) → FitsActivation all k scope a → Within whole v path type →
      Located (Holding whole ∷ scope) (Holds v ∷ a) zero path type
  located_first whole v scope a path type h u =
      let others = position_words all a in
      let e : inner whole path ≡ 0 + inner whole path = omega arith in
      record {
        typed = u.typed;
        front = u.front;
        back = u.back ++ others;
        count = u.count ∙ e;
        words_are = ap (λ (ws : List ℤ). ws ++ others) u.words_are
            ∙ append_assoc u.front (flat (selected v path) ++ u.back) others
            ∙ ap (λ (ws : List ℤ). u.front ++ ws) (append_assoc (flat (selected v path)) u.back others);
        changed = λ w. ap (λ (ws : List ℤ). ws ++ others) (u.changed w)
            ∙ append_assoc u.front (flat w ++ u.back) others
            ∙ ap (λ (ws : List ℤ). u.front ++ ws) (append_assoc (flat w) u.back others);
        kept = λ w typed. (u.kept w typed, h);
      }

  located_later : (s : Space) (x : Held) (scope : Scope) (a : Activation) (position : ℕ) (path : List ℕ) (type : DataType) → FitsHeld all k s x → Located scope a position path type →
      Located (s ∷ scope) (x ∷ a) (suc position) path type
  located_later s x scope a position path type h l =
      let here = held_words all x in
      let same : length here ≡ width s = length-held s x h in
      record {
        typed = l.typed;
        front = here ++ l.front;
        back = l.back;
        count = omega (arith, length-append here l.front, same, l.count);
        words_are = ap (λ (ws : List ℤ). here ++ ws) l.words_are ∙ sym (append_assoc here l.front (flat (selected (value_held (held_at a position)) path) ++ l.back));
        changed = λ w. ap (λ (ws : List ℤ). here ++ ws) (l.changed w) ∙ sym (append_assoc here l.front (flat w ++ l.back));
        kept = λ w typed. (h, l.kept w typed);
      }

  pub located : (scope : Scope) (a : Activation) (position : ℕ) (path : List ℕ) (type : DataType) → FitsActivation all k scope a → IsPlaceIn scope position path type → Located scope a position path type
  located [] a position path type h is = absurd is
  located (s ∷ scope) [] position path type h is = absurd h
  located (Holding whole ∷ scope) (Holds v ∷ a) zero path type h is = located_first whole v scope a path type h.1 (within path whole v type h.0 is)
  located (Holding whole ∷ scope) (Refers place ∷ a) zero path type h is = absurd h.0
  located (Referring whole ∷ scope) (x ∷ a) zero path type h is = absurd is
  located (s ∷ scope) (x ∷ a) (suc position) path type h is = located_later s x scope a position path type h.0 (located scope a position path type h.1 is)

  -- ---- a reference

  -- the word of a reference, with those before and behind it
  pub record Refer (scope : Scope) (a : Activation) (position : ℕ) (type : DataType) : Type 0 where
    pub place : Place
    pub held : held_at a position ≡ Refers place
    pub before : place.activation < k
    pub is_place : IsPlace all place type
    pub front : List ℤ
    pub back : List ℤ
    pub count : length front ≡ word_in scope position
    pub words_are : position_words all a ≡ front ++ (pos (address all place) ∷ back)

  -- a position has a value of its own, and then is a place, or a reference to one
  pub data Kind (scope : Scope) (a : Activation) (position : ℕ) : Type 0 where
    own_value : (type : DataType) → space_at scope position ≡ Holding type → IsPlaceIn scope position [] type → (v : Value) → held_at a position ≡ Holds v → Kind scope a position
    reference : (type : DataType) → space_at scope position ≡ Referring type → Refer scope a position type → Kind scope a position

  refer_later : (s : Space) (x : Held) (scope : Scope) (a : Activation) (position : ℕ) (type : DataType) → FitsHeld all k s x → Refer scope a position type →
      Refer (s ∷ scope) (x ∷ a) (suc position) type
  refer_later s x scope a position type h r =
      let here = held_words all x in
      let same : length here ≡ width s = length-held s x h in
      record {
        place = r.place;
        held = r.held;
        before = r.before;
        is_place = r.is_place;
        front = here ++ r.front;
        back = r.back;
        count = omega (arith, length-append here r.front, same, r.count);
        words_are = ap (λ (ws : List ℤ). here ++ ws) r.words_are ∙ sym (append_assoc here r.front (pos (address all r.place) ∷ r.back));
      }

  pub kind : (scope : Scope) (a : Activation) (position : ℕ) → FitsActivation all k scope a → HasPosition scope position → Kind scope a position
  kind [] a position h has = absurd has
  kind (s ∷ scope) [] position h has = absurd h
  kind (Holding type ∷ scope) (Holds v ∷ a) zero h has = own_value type refl refl v refl
  kind (Holding type ∷ scope) (Refers place ∷ a) zero h has = absurd h.0
  kind (Referring type ∷ scope) (Holds v ∷ a) zero h has = absurd h.0
  kind (Referring type ∷ scope) (Refers q ∷ a) zero h has = reference type refl (record {
    place = q;
    held = refl;
    before = h.0.0;
    is_place = h.0.1;
    front = [];
    back = position_words all a;
    count = refl;
    words_are = refl;
  })
  kind (s ∷ scope) (x ∷ a) (suc position) h has = elim (kind scope a position h.1 has) [
    | own_value type is place v held ↦ own_value type is place v held
    | reference type is r ↦ reference type is (refer_later s x scope a position type h.0 r)
  ]
