-- What is read at a scalar place and at a reference, and what a store into a scalar place changes.
use Rattle.std.proofs.Common.{◌≡◌, ℕ, ◌+◌, ◌<◌, ℤ, pos, List, ◌∷◌, ◌++◌, length, refl, sym, ap, ◌∙◌, subst, length-append, arith}
use Rattle.std.specs.Prelude.{slice_set, slice_index_or}
use Rattle.std.proofs.lemmas.List.{get_or_at, set_at}
use Rattle.ob_interface.specs.declared.scalar.Scalar.{Scalar}
use Rattle.ob_interface.specs.declared.scalar.ScalarType.{ScalarType}
use Rattle.ob_typing.specs.Program.{DataType, Simple}
use Rattle.ob_meaning.specs.ByPositionValue.{Value, Single, Parts}
use Rattle.ob_meaning.specs.ByPositionStore.{Store, value_at}
use Rattle.ob_code_scheme.specs.Types.{Holding, Referring, Scope, space_at, scope_at, address, IsScalarOf, IsValueOf}
use Rattle.ob_code_scheme.specs.Layout.{word, flat}
use Rattle.ob_code_scheme.specs.Image.{store_words}
use Rattle.ob_code_scheme.specs.Memory as Owed
use Rattle.ob_code_scheme.specs.Memory.{Looked, Changed, Referred, first_word}
use Rattle.ob_code_correct.proofs.Located.{length-position, same_length}
use Rattle.ob_code_correct.proofs.Found.{length-from, same_count, find, FoundReference, FoundKind, value_there, reference_there, kind_of}
use Rattle.ob_code_correct.proofs.Paths.{referring_is_there, reaches_in_all}

pub total_lengths : Owed.TotalLengths
total_lengths scopes store h = (length-from scopes 0 scopes store h.from, same_count scopes 0 scopes store h.from)

pub position_lengths : Owed.PositionLengths
position_lengths scopes k scope a h = (length-position scopes k scope a h, same_length scopes k scope a h)

pub reaches : Owed.Reaches
reaches scopes place type h = reaches_in_all scopes place.activation place.position place.path type h

-- a value of a scalar type is a scalar
record IsSingle (t : ScalarType) (v : Value) : Type 0 where
  scalar : Scalar
  is : v ≡ Single scalar
  typed : IsScalarOf t scalar

is_single : (t : ScalarType) (v : Value) → IsValueOf (Simple t) v → IsSingle t v
is_single t (Single s) h = record { scalar = s; is = refl; typed = h }
is_single t (Parts vs) h = absurd h

pub looks : Owed.Looks
looks scopes store place t h is =
    let f = find scopes 0 scopes store place.activation place.position place.path (Simple t) h.from is in
    let s = is_single t (value_at store place) f.typed in
    let ws : store_words scopes store ≡ f.front ++ (word s.scalar ∷ f.back) = f.words_are ∙ ap (λ (v : Value). f.front ++ (flat v ++ f.back)) s.is in
    record {
      value = s.scalar;
      value_is = s.is;
      typed = s.typed;
      below = omega (arith, ap length ws, length-append f.front (word s.scalar ∷ f.back), f.count);
      word_is = ap (λ (l : List ℤ). slice_index_or l (address scopes place) (pos 0)) ws ∙ get_or_at f.front (word s.scalar) f.back (pos 0) (address scopes place) f.count;
    }

pub changes : Owed.Changes
changes scopes store place t s h is typed =
    let f = find scopes 0 scopes store place.activation place.position place.path (Simple t) h.from is in
    let old = is_single t (value_at store place) f.typed in
    let ws : store_words scopes store ≡ f.front ++ (word old.scalar ∷ f.back) = f.words_are ∙ ap (λ (v : Value). f.front ++ (flat v ++ f.back)) old.is in
    record {
      fits = record { from = f.kept (Single s) typed };
      words_are = f.changed (Single s)
          ∙ sym (set_at f.front (word old.scalar) f.back (word s) (address scopes place) f.count)
          ∙ ap (λ (l : List ℤ). slice_set l (address scopes place) (word s)) (sym ws);
    }

-- a position with an address refers
only_refers : (scopes : List Scope) (store : Store) (k j : ℕ) (type : DataType) → space_at (scope_at scopes k) j ≡ Referring type → FoundKind scopes 0 scopes store k j → FoundReference scopes 0 scopes store k j type
only_refers scopes store k j type is (value_there other holds place v held) = absurd (clash (sym holds ∙ is))
  where
    clash : Holding other ≡ Referring type → ⊥
    clash e = cc
only_refers scopes store k j type is (reference_there other refers r) = subst (λ (t : DataType). FoundReference scopes 0 scopes store k j t) (one_type (sym refers ∙ is)) r
  where
    one_type : Referring other ≡ Referring type → other ≡ type
    one_type e = cc

pub refer : Owed.Refer
refer scopes store k j type h is =
    let r = only_refers scopes store k j type is (kind_of scopes 0 scopes store k j h.from (referring_is_there (scope_at scopes k) j type is)) in
    let none : 0 + k ≡ k = omega arith in
    record {
      place = r.place;
      held_is = r.held;
      lower = subst (λ (m : ℕ). r.place.activation < m) none r.before;
      is_place = r.is_place;
      below = omega (arith, ap length r.words_are, length-append r.front (pos (address scopes r.place) ∷ r.back), r.count);
      word_is = ap (λ (l : List ℤ). slice_index_or l (first_word scopes k j) (pos 0)) r.words_are
          ∙ get_or_at r.front (pos (address scopes r.place)) r.back (pos 0) (first_word scopes k j) r.count;
    }
