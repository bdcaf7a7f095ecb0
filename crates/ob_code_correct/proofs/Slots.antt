-- The places of variables and of what lies further in, and their addresses.
use Rattle.std.proofs.Common.{◌≡◌, ℕ, suc, pred, ◌+◌, ◌<◌, pos, List, [], ◌∷◌, ◌++◌, length, refl, sym, ap, ◌∙◌, subst, length-append, arith}
use Rattle.std.specs.Prelude.{slice_index_or}
use Rattle.ob_typing.specs.Program.{DataType, Owner, OfModule, Own}
use Rattle.ob_meaning.specs.ByPositionStore.{Place, Held, Store, activation_at, running, held_at, place_held, place_owned}
use Rattle.ob_code_scheme.specs.Types.{inner, Holding, Referring, Scope, extent, word_in, space_at, type_of_space, type_at, scope_of, total, scope_at, address, IsPlaceIn, IsPlace, Fits}
use Rattle.ob_code_scheme.specs.WellFormed.{HasPosition}
use Rattle.ob_code_scheme.specs.Image.{Scopes, all, store_words}
use Rattle.ob_code_scheme.specs.Memory as Owed
use Rattle.ob_code_scheme.specs.Memory.{Based, Measured, OwnReferred, Referred, first_word, own_word}
use Rattle.ob_code_correct.proofs.Located.{length-position}
use Rattle.ob_code_correct.proofs.Found.{length-from, same_count, FoundKind, value_there, reference_there, kind_of}
use Rattle.ob_code_correct.proofs.Growth.{scope_at-last, base-length, total-append, is_place_more, address_same, place_below}
use Rattle.ob_code_correct.proofs.Paths.{inner-append, place_is_path, place_further}
use Rattle.ob_code_correct.proofs.Looking.{refer}

-- ---- the scopes of a store's positions

pub bases : Owed.Bases
bases scopes =
    let n : length (scopes.lower ++ scopes.own ∷ []) ≡ length scopes.lower + 1 = length-append scopes.lower (scopes.own ∷ []) in
    let t : total (scopes.lower ++ scopes.own ∷ []) ≡ total scopes.lower + (extent scopes.own + 0) = total-append scopes.lower (scopes.own ∷ []) in
    record {
      count = omega (arith, n);
      own_is = scope_at-last scopes.lower scopes.own;
      base_is = ap (λ (m : ℕ). extent scopes.globals + m) (base-length scopes.lower (scopes.own ∷ []));
      total_is = omega (arith, t);
    }

pub running_is : (scopes : Scopes) (store : Store) → Fits (all scopes) store → running store ≡ suc (length scopes.lower)
running_is scopes store h = ap pred (same_count (all scopes) 0 (all scopes) store h.from ∙ (bases scopes).count)

pub lengths : Owed.Lengths
lengths scopes [] h = absurd h.from
lengths scopes (a ∷ store) h =
    let t : total (scopes.lower ++ scopes.own ∷ []) ≡ total scopes.lower + (extent scopes.own + 0) = total-append scopes.lower (scopes.own ∷ []) in
    record {
      count = running_is scopes (a ∷ store) h;
      block = length-position (all scopes) 0 scopes.globals a h.from.0;
      stack = omega (arith, length-from (all scopes) 1 (scopes.lower ++ scopes.own ∷ []) store h.from.1, t);
      parts = refl;
    }

-- ---- the place that a position stands for

-- of its type, in any position of the store
pub is_place_held : (scopes : List Scope) (store : Store) (k position : ℕ) → Fits scopes store → HasPosition (scope_at scopes k) position →
    IsPlace scopes (place_held (held_at (activation_at store k) position) k position) (type_at (scope_at scopes k) position)
is_place_held scopes store k position h has = by (kind_of scopes 0 scopes store k position h.from has)
  where
    by : FoundKind scopes 0 scopes store k position → IsPlace scopes (place_held (held_at (activation_at store k) position) k position) (type_at (scope_at scopes k) position)
    by (value_there type is place v held) =
        subst (λ (x : Held). IsPlace scopes (place_held x k position) (type_at (scope_at scopes k) position)) (sym held)
        (subst (λ (t : DataType). IsPlaceIn (scope_at scopes k) position [] t) (sym (ap type_of_space is)) place)
    by (reference_there type is r) =
        subst (λ (x : Held). IsPlace scopes (place_held x k position) (type_at (scope_at scopes k) position)) (sym r.held)
        (subst (λ (t : DataType). IsPlace scopes r.place t) (sym (ap type_of_space is)) r.is_place)

-- a position that holds a value is a place itself
pub holds_itself : (scopes : List Scope) (store : Store) (k position : ℕ) (type : DataType) → Fits scopes store → HasPosition (scope_at scopes k) position → space_at (scope_at scopes k) position ≡ Holding type →
    place_held (held_at (activation_at store k) position) k position ≡ record { activation = k; position = position; path = [] }
holds_itself scopes store k position type h has is = by (kind_of scopes 0 scopes store k position h.from has)
  where
    by : FoundKind scopes 0 scopes store k position → place_held (held_at (activation_at store k) position) k position ≡ record { activation = k; position = position; path = [] }
    by (value_there other holds place v held) = ap (λ (x : Held). place_held x k position) held
    by (reference_there other refers r) = absurd (clash (sym refers ∙ is))
      where
        clash : Referring other ≡ Holding type → ⊥
        clash e = cc

module_place : (scopes : Scopes) (store : Store) (position : ℕ) → Fits (all scopes) store → HasPosition scopes.globals position →
    IsPlace (all scopes) (place_owned OfModule store position) (type_at scopes.globals position)
module_place scopes store position h has = by (kind_of (all scopes) 0 (all scopes) store 0 position h.from has)
  where
    by : FoundKind (all scopes) 0 (all scopes) store 0 position → IsPlaceIn scopes.globals position [] (type_at scopes.globals position)
    by (value_there type is place v held) = subst (λ (t : DataType). IsPlaceIn scopes.globals position [] t) (sym (ap type_of_space is)) place
    by (reference_there type is r) = absurd (omega (arith, r.before))

own_place : (scopes : Scopes) (store : Store) (position : ℕ) → Fits (all scopes) store → HasPosition scopes.own position → IsPlace (all scopes) (place_owned Own store position) (type_at scopes.own position)
own_place scopes store position h =
    let k : ℕ = suc (length scopes.lower) in
    let there : HasPosition scopes.own position → IsPlace (all scopes) (place_held (held_at (activation_at store k) position) k position) (type_at scopes.own position) =
    subst (λ (s : Scope). HasPosition s position → IsPlace (all scopes) (place_held (held_at (activation_at store k) position) k position) (type_at s position)) (bases scopes).own_is
    (λ has. is_place_held (all scopes) store k position h has) in
    subst (λ (m : ℕ). HasPosition scopes.own position → IsPlace (all scopes) (place_held (held_at (activation_at store m) position) m position) (type_at scopes.own position)) (sym (running_is scopes store h)) there

of_owner : (owner : Owner) (scopes : Scopes) (store : Store) (position : ℕ) → Fits (all scopes) store → HasPosition (scope_of scopes.globals scopes.own owner) position →
    IsPlace (all scopes) (place_owned owner store position) (type_at (scope_of scopes.globals scopes.own owner) position)
of_owner OfModule scopes store position h has = module_place scopes store position h has
of_owner Own scopes store position h has = own_place scopes store position h has

pub variable_places : Owed.VariablePlaces
variable_places scopes store slot h has = of_owner slot.owner scopes store slot.position h has

pub global_addresses : Owed.GlobalAddresses
global_addresses scopes store position =
    let e : 0 + (word_in scopes.globals position + 0) ≡ word_in scopes.globals position = omega arith in e

-- the first word of a position of the running procedure
own_first : (scopes : Scopes) (position : ℕ) → first_word (all scopes) (suc (length scopes.lower)) position ≡ own_word scopes position
own_first scopes position =
    ap (λ (m : ℕ). m + word_in (scope_at (all scopes) (suc (length scopes.lower))) position) (bases scopes).base_is
    ∙ ap (λ (s : Scope). extent scopes.globals + total scopes.lower + word_in s position) (bases scopes).own_is

pub own_addresses : Owed.OwnAddresses
own_addresses scopes store position type h has is =
    let k : ℕ = suc (length scopes.lower) in
    let own = sym (bases scopes).own_is in
    let there : HasPosition (scope_at (all scopes) k) position = subst (λ (s : Scope). HasPosition s position) own has in
    let holds : space_at (scope_at (all scopes) k) position ≡ Holding type = subst (λ (s : Scope). space_at s position ≡ Holding type) own is in
    let itself = holds_itself (all scopes) store k position type h there holds in
    let none : first_word (all scopes) k position ≡ own_word scopes position = own_first scopes position in
    let n : address (all scopes) (record { activation = k; position = position; path = [] }) ≡ own_word scopes position = omega (arith, none) in
    ap (λ (m : ℕ). address (all scopes) (place_held (held_at (activation_at store m) position) m position)) (running_is scopes store h)
    ∙ ap (address (all scopes)) itself
    ∙ n

pub own_references : Owed.OwnReferences
own_references scopes store position type h is =
    let k : ℕ = suc (length scopes.lower) in
    let refers : space_at (scope_at (all scopes) k) position ≡ Referring type = subst (λ (s : Scope). space_at s position ≡ Referring type) (sym (bases scopes).own_is) is in
    let r = refer (all scopes) store k position type h refers in
    let place : place_owned Own store position ≡ r.place =
    ap (λ (m : ℕ). place_held (held_at (activation_at store m) position) m position) (running_is scopes store h)
    ∙ ap (λ (x : Held). place_held x k position) r.held_is in
    record {
      below = subst (λ (m : ℕ). m < length (store_words (all scopes) store)) (own_first scopes position) r.below;
      word_is = ap (λ (m : ℕ). slice_index_or (store_words (all scopes) store) m (pos 0)) (sym (own_first scopes position))
          ∙ r.word_is
          ∙ ap (λ (q : Place). pos (address (all scopes) q)) (sym place);
    }

-- ---- further in

pub further_places : Owed.FurtherPlaces
further_places scopes place from to path h g = place_further (scope_at scopes place.activation) place.position place.path path from to h g

pub further_addresses : Owed.FurtherAddresses
further_addresses scopes place from path h =
    let scope = scope_at scopes place.activation in
    let e : inner (type_at scope place.position) (place.path ++ path) ≡ inner (type_at scope place.position) place.path + inner from path =
    inner-append place.path path (type_at scope place.position) from (place_is_path scope place.position place.path from h) in
    omega (arith, e)

pub places_stay : Owed.PlacesStay
places_stay scopes own place type h =
    (is_place_more scopes (own ∷ []) place type h, address_same scopes (own ∷ []) place (place_below scopes place.activation place.position place.path type h))
