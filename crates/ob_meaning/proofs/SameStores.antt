-- Activations and stores by position and by name: what a place has, and a write at a place.
use Rattle.std.proofs.Common.{◌≡◌, refl, ap, sym, subst, ◌∙◌, arith, ℕ, zero, suc, ◌+◌, false, List, [], ◌∷◌, map, length, bytes_eq}
use Rattle.std.specs.Prelude.{slice_set}
use Rattle.std.proofs.lemmas.Slice.Eq.{bytes_eq-Decides}
use Rattle.ob_typing.specs.Program.{Name, DataType, Parameter}
use Rattle.ob_meaning.specs.ByNameValue as Named
use Rattle.ob_meaning.specs.ByNameStore as Names
use Rattle.ob_meaning.specs.ByPositionValue.{Value}
use Rattle.ob_meaning.specs.ByPositionStore.{Place, Held, Holds, Refers, Activation, Store, activation_at, held_at, value_held, value_at, with_value, with_held, stored}
use Rattle.ob_meaning.specs.Resolved.{IsAt, NoneCalled}
use Rattle.ob_meaning.specs.Same.{SameValue, SamePath, Scopes, scope_at, SamePlace, SameHeld, SameActivation, SameFrom, SameStore}
use Rattle.ob_meaning.proofs.SameValues.{if_true, if_false, selected_same, replaced_same}

module _ (scopes : Scopes) where
  -- what a name has is what its position has
  held_same : (k : ℕ) (ps : List Parameter) (bs : Names.Activation) (hs : Activation) (name : Name) (i : ℕ) (p : Parameter) →
      SameActivation scopes k ps bs hs → IsAt ps name i p → SameHeld scopes k p (Names.held_by bs name) (held_at hs i)
  held_same k [] bs hs name i p h at = absurd at
  held_same k (q ∷ ps) [] hs name i p h at = absurd h
  held_same k (q ∷ ps) (b ∷ bs) [] name i p h at = absurd h
  held_same k (q ∷ ps) (b ∷ bs) (g ∷ hs) name zero p h at =
      subst (λ x. SameHeld scopes k p x g) (sym (if_true (bytes_eq b.name name) b.held (Names.held_by bs name) (ap (λ n. bytes_eq n name) h.0.0 ∙ at.0)))
      (subst (λ x. SameHeld scopes k x b.held g) at.1 h.1.0)
  held_same k (q ∷ ps) (b ∷ bs) (g ∷ hs) name (suc i) p h at =
      subst (λ x. SameHeld scopes k p x (held_at hs i)) (sym (if_false (bytes_eq b.name name) b.held (Names.held_by bs name) (ap (λ n. bytes_eq n name) h.0.0 ∙ at.0)))
      (held_same k ps bs hs name i p h.1.1 at.1)

  -- an activation stands at its position
  pub activation_same : (k n i : ℕ) (rest : Scopes) (ms : Names.Store) (ss : Store) → n ≡ k + i → SameFrom scopes k rest ms ss →
      SameActivation scopes n (scope_at rest i) (Names.activation_at ms i) (activation_at ss i)
  activation_same k n i [] [] [] e h = tt
  activation_same k n i [] [] (b ∷ ss) e h = absurd h
  activation_same k n i [] (a ∷ ms) ss e h = absurd h
  activation_same k n i (s ∷ rest) [] ss e h = absurd h
  activation_same k n i (s ∷ rest) (a ∷ ms) [] e h = absurd h
  activation_same k n zero (s ∷ rest) (a ∷ ms) (b ∷ ss) e h =
      let same : k ≡ n = omega (arith, e) in
      subst (λ x. SameActivation scopes x s a b) same h.0
  activation_same k n (suc i) (s ∷ rest) (a ∷ ms) (b ∷ ss) e h =
      let further : n ≡ suc k + i = omega (arith, e) in
      activation_same (suc k) n i rest ms ss further h.1

  -- nothing of another name is written
  rebound_none : (k : ℕ) (ps : List Parameter) (bs : Names.Activation) (hs : Activation) (name : Name) (path : List Named.SelectorValue) (v : Named.Value) →
      SameActivation scopes k ps bs hs → NoneCalled ps name → SameActivation scopes k ps (map (Names.rebound name path v) bs) hs
  rebound_none k [] [] [] name path v h none = tt
  rebound_none k [] [] (g ∷ hs) name path v h none = absurd h
  rebound_none k [] (b ∷ bs) hs name path v h none = absurd h
  rebound_none k (q ∷ ps) [] hs name path v h none = absurd h
  rebound_none k (q ∷ ps) (b ∷ bs) [] name path v h none = absurd h
  rebound_none k (q ∷ ps) (b ∷ bs) (g ∷ hs) name path v h none =
      subst (λ x. SameActivation scopes k (q ∷ ps) (x ∷ map (Names.rebound name path v) bs) (g ∷ hs))
      (sym (if_false (bytes_eq b.name name) (record b { held = Names.Holds (Named.replaced (Names.value_held b.held) path v) }) b (ap (λ n. bytes_eq n name) h.0.0 ∙ none.0)))
      (h.0, (h.1.0, rebound_none k ps bs hs name path v h.1.1 none.1))

  held_written : (k : ℕ) (p : Parameter) (m : Names.Held) (g : Held) (selectors : List Named.SelectorValue) (path : List ℕ) (t : DataType) (v : Named.Value) (w : Value) →
      SameHeld scopes k p m g → p.is_var ≡ false → SamePath p.type selectors path t → SameValue t v w →
      SameHeld scopes k p (Names.Holds (Named.replaced (Names.value_held m) selectors v)) (with_value g path w)
  held_written k p (Names.Holds a) (Holds b) selectors path t v w h own along r = (h.0, replaced_same p.type t a b selectors path v w h.1 along r)
  held_written k p (Names.Holds a) (Refers q) selectors path t v w h own along r = absurd h
  held_written k p (Names.Refers a) (Holds b) selectors path t v w h own along r = absurd h
  held_written k p (Names.Refers a) (Refers q) selectors path t v w h own along r = absurd (let e = h.0 in cc)

  -- a write at a name is the write at its position
  rebound_same : (k : ℕ) (ps : List Parameter) (bs : Names.Activation) (hs : Activation) (name : Name) (i : ℕ) (p : Parameter)
      (selectors : List Named.SelectorValue) (path : List ℕ) (t : DataType) (v : Named.Value) (w : Value) →
      SameActivation scopes k ps bs hs → IsAt ps name i p → p.is_var ≡ false → SamePath p.type selectors path t → SameValue t v w →
      SameActivation scopes k ps (map (Names.rebound name selectors v) bs) (with_held hs i path w)
  rebound_same k [] bs hs name i p selectors path t v w h at own along r = absurd at
  rebound_same k (q ∷ ps) [] hs name i p selectors path t v w h at own along r = absurd h
  rebound_same k (q ∷ ps) (b ∷ bs) [] name i p selectors path t v w h at own along r = absurd h
  rebound_same k (q ∷ ps) (b ∷ bs) (g ∷ hs) name zero p selectors path t v w h at own along r =
      let written = record b { held = Names.Holds (Named.replaced (Names.value_held b.held) selectors v) } in
      let none : NoneCalled ps name = subst (NoneCalled ps) ((bytes_eq-Decides q.name name).0 at.0) h.0.1 in
      subst (λ x. SameActivation scopes k (q ∷ ps) (x ∷ map (Names.rebound name selectors v) bs) (with_value g path w ∷ hs))
      (sym (if_true (bytes_eq b.name name) written b (ap (λ n. bytes_eq n name) h.0.0 ∙ at.0))) (
        h.0,
        (
          subst (λ x. SameHeld scopes k x written.held (with_value g path w)) (sym at.1)
              (held_written k p b.held g selectors path t v w (subst (λ x. SameHeld scopes k x b.held g) at.1 h.1.0) own along r),
          rebound_none k ps bs hs name selectors v h.1.1 none,
        ),
      )
  rebound_same k (q ∷ ps) (b ∷ bs) (g ∷ hs) name (suc i) p selectors path t v w h at own along r =
      subst (λ x. SameActivation scopes k (q ∷ ps) (x ∷ map (Names.rebound name selectors v) bs) (g ∷ with_held hs i path w))
      (sym (if_false (bytes_eq b.name name) (record b { held = Names.Holds (Named.replaced (Names.value_held b.held) selectors v) }) b (ap (λ n. bytes_eq n name) h.0.0 ∙ at.0)))
      (h.0, (h.1.0, rebound_same k ps bs hs name i p selectors path t v w h.1.1 at.1 own along r))

  -- another activation at a position
  set_same : (k n i : ℕ) (rest : Scopes) (ms : Names.Store) (ss : Store) (a : Names.Activation) (b : Activation) → n ≡ k + i → SameFrom scopes k rest ms ss →
      SameActivation scopes n (scope_at rest i) a b → SameFrom scopes k rest (slice_set ms i a) (slice_set ss i b)
  set_same k n i [] [] [] a b e h new = tt
  set_same k n i [] [] (y ∷ ss) a b e h new = absurd h
  set_same k n i [] (x ∷ ms) ss a b e h new = absurd h
  set_same k n i (s ∷ rest) [] ss a b e h new = absurd h
  set_same k n i (s ∷ rest) (x ∷ ms) [] a b e h new = absurd h
  set_same k n zero (s ∷ rest) (x ∷ ms) (y ∷ ss) a b e h new =
      let same : n ≡ k = omega (arith, e) in
      (subst (λ z. SameActivation scopes z s a b) same new, h.1)
  set_same k n (suc i) (s ∷ rest) (x ∷ ms) (y ∷ ss) a b e h new =
      let further : n ≡ suc k + i = omega (arith, e) in
      (h.0, set_same (suc k) n i rest ms ss a b further h.1 new)

  value_of_held : (k : ℕ) (p : Parameter) (m : Names.Held) (g : Held) → SameHeld scopes k p m g → p.is_var ≡ false →
      SameValue p.type (Names.value_held m) (value_held g)
  value_of_held k p (Names.Holds a) (Holds b) h own = h.1
  value_of_held k p (Names.Holds a) (Refers q) h own = absurd h
  value_of_held k p (Names.Refers a) (Holds b) h own = absurd h
  value_of_held k p (Names.Refers a) (Refers q) h own = absurd (let e = h.0 in cc)

  pub value_at_same : (ms : Names.Store) (ss : Store) (t : DataType) (a : Names.Place) (b : Place) → SameStore scopes ms ss → SamePlace scopes t a b →
      SameValue t (Names.value_at ms a) (value_at ss b)
  value_at_same ms ss t a b h p =
      let here : SameActivation scopes b.activation (scope_at scopes b.activation) (Names.activation_at ms b.activation) (activation_at ss b.activation) =
      activation_same 0 b.activation b.activation scopes ms ss (omega arith) h in
      subst (λ k. SameValue t (Named.selected (Names.value_held (Names.held_by (Names.activation_at ms k) a.name)) a.selectors) (value_at ss b)) (sym p.activation)
      (selected_same p.variable.type t _ _ a.selectors b.path
      (value_of_held b.activation p.variable _ _ (held_same b.activation (scope_at scopes b.activation) _ _ a.name b.position p.variable here p.there) p.own) p.path)

  pub stored_same : (ms : Names.Store) (ss : Store) (t : DataType) (a : Names.Place) (b : Place) (v : Named.Value) (w : Value) →
      SameStore scopes ms ss → SamePlace scopes t a b → SameValue t v w → SameStore scopes (Names.stored ms a v) (stored ss b w)
  stored_same ms ss t a b v w h p r =
      let here : SameActivation scopes b.activation (scope_at scopes b.activation) (Names.activation_at ms b.activation) (activation_at ss b.activation) =
      activation_same 0 b.activation b.activation scopes ms ss (omega arith) h in
      subst (λ k. SameStore scopes (slice_set ms k (map (Names.rebound a.name a.selectors v) (Names.activation_at ms k))) (stored ss b w)) (sym p.activation)
      (set_same 0 b.activation b.activation scopes ms ss _ _ (omega arith) h
      (rebound_same b.activation (scope_at scopes b.activation) _ _ a.name b.position p.variable a.selectors b.path t v w here p.there p.own p.path r))

  lengths : (k : ℕ) (rest : Scopes) (ms : Names.Store) (ss : Store) → SameFrom scopes k rest ms ss → (length ms ≡ length rest) × (length ss ≡ length rest)
  lengths k [] [] [] h = (refl, refl)
  lengths k [] [] (b ∷ ss) h = absurd h
  lengths k [] (a ∷ ms) ss h = absurd h
  lengths k (s ∷ rest) [] ss h = absurd h
  lengths k (s ∷ rest) (a ∷ ms) [] h = absurd h
  lengths k (s ∷ rest) (a ∷ ms) (b ∷ ss) h = let l = lengths (suc k) rest ms ss h.1 in (ap suc l.0, ap suc l.1)

  pub named_length : (ms : Names.Store) (ss : Store) → SameStore scopes ms ss → length ms ≡ length scopes
  named_length ms ss h = (lengths 0 scopes ms ss h).0

  pub store_length : (ms : Names.Store) (ss : Store) → SameStore scopes ms ss → length ss ≡ length scopes
  store_length ms ss h = (lengths 0 scopes ms ss h).1

  -- the place that a variable stands for
  pub held_here : (ms : Names.Store) (ss : Store) (k : ℕ) (name : Name) (i : ℕ) (p : Parameter) → SameStore scopes ms ss → IsAt (scope_at scopes k) name i p →
      SameHeld scopes k p (Names.held_by (Names.activation_at ms k) name) (held_at (activation_at ss k) i)
  held_here ms ss k name i p h at =
      held_same k (scope_at scopes k) _ _ name i p (activation_same 0 k k scopes ms ss (omega arith) h) at
