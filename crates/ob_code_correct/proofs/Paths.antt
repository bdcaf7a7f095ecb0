-- Paths and places of scopes: what lies further in, how far a place reaches, and places that don't overlap.
use Rattle.std.proofs.Common.{◌≡◌, ℕ, zero, suc, ◌+◌, ◌*◌, ◌<◌, ◌≤◌, List, [], ◌∷◌, ◌++◌, refl, sym, ap, ◌∙◌, subst, inl, inr, ⊎_elim, arith}
use Rattle.std.specs.Prelude.{◌⊎◌}
use Rattle.std.proofs.lemmas.Bool.{cases_lt}
use Rattle.std.proofs.Math.Nat.{mul-le-mul_right}
use Rattle.ob_typing.specs.Program.{DataType, Simple, Array, Record, Fields, no_field, field}
use Rattle.ob_code_scheme.specs.Types.{words, words_of_fields, offset, field_type, part_type, part_offset, inner, Holding, Referring, Scope, width, extent, word_in, space_at, type_at, base, total, scope_at, HasField, HasPart, IsPath, IsPlaceIn}
use Rattle.ob_code_scheme.specs.WellFormed.{HasPosition}
use Rattle.ob_code_scheme.specs.Memory.{Begins}

-- ---- further in

pub inner-append : (path more : List ℕ) (from middle : DataType) → IsPath from path middle → inner from (path ++ more) ≡ inner from path + inner middle more
inner-append [] more from middle h =
    let e : inner from more ≡ 0 + inner from more = omega arith in
    e ∙ ap (λ (type : DataType). 0 + inner type more) h
inner-append (i ∷ path) more from middle h =
    let rest = inner-append path more (part_type from i) middle h.1 in
    omega (arith, rest)

pub is_path-append : (path more : List ℕ) (from middle to : DataType) → IsPath from path middle → IsPath middle more to → IsPath from (path ++ more) to
is_path-append [] more from middle to h g = subst (λ (type : DataType). IsPath type more to) (sym h) g
is_path-append (i ∷ path) more from middle to h g = (h.0, is_path-append path more (part_type from i) middle to h.1 g)

-- a place of a scope is a path from the type of its position
pub place_is_path : (scope : Scope) (position : ℕ) (path : List ℕ) (type : DataType) → IsPlaceIn scope position path type → IsPath (type_at scope position) path type
place_is_path [] position path type h = absurd h
place_is_path (Holding whole ∷ scope) zero path type h = h
place_is_path (Referring whole ∷ scope) zero path type h = absurd h
place_is_path (s ∷ scope) (suc position) path type h = place_is_path scope position path type h

pub place_further : (scope : Scope) (position : ℕ) (path more : List ℕ) (from to : DataType) → IsPlaceIn scope position path from → IsPath from more to → IsPlaceIn scope position (path ++ more) to
place_further [] position path more from to h g = absurd h
place_further (Holding whole ∷ scope) zero path more from to h g = is_path-append path more whole from to h g
place_further (Referring whole ∷ scope) zero path more from to h g = absurd h
place_further (s ∷ scope) (suc position) path more from to h g = place_further scope position path more from to h g

-- a scope has a position where an address is
pub referring_is_there : (scope : Scope) (position : ℕ) (type : DataType) → space_at scope position ≡ Referring type → HasPosition scope position
referring_is_there [] position type h = absurd (cc)
referring_is_there (s ∷ scope) zero type h = tt
referring_is_there (s ∷ scope) (suc position) type h = referring_is_there scope position type h

-- ---- how far a part reaches

field_reaches : (fields : Fields) (i : ℕ) → HasField fields i → offset fields i + words (field_type fields i) ≤ words_of_fields fields
field_reaches no_field i h = absurd h
field_reaches (field name type rest) zero h = omega arith
field_reaches (field name type rest) (suc i) h = let others = field_reaches rest i h in omega (arith, others)

part_reaches : (from : DataType) (i : ℕ) → HasPart from i → part_offset from i + words (part_type from i) ≤ words from
part_reaches (Simple type) i h = absurd h
part_reaches (Array place n element) i h =
    let e : suc i * words element ≤ n * words element = mul-le-mul_right (words element) h in
    omega (arith, e)
part_reaches (Record place fields) i h = field_reaches fields i h

pub path_reaches : (path : List ℕ) (from to : DataType) → IsPath from path to → inner from path + words to ≤ words from
path_reaches [] from to h = let e : words from ≡ words to = ap words h in omega (arith, e)
path_reaches (i ∷ path) from to h =
    let here = part_reaches from i h.0 in
    let rest = path_reaches path (part_type from i) to h.1 in
    omega (arith, here, rest)

pub place_reaches : (scope : Scope) (position : ℕ) (path : List ℕ) (type : DataType) → IsPlaceIn scope position path type →
    word_in scope position + inner (type_at scope position) path + words type ≤ extent scope
place_reaches [] position path type h = absurd h
place_reaches (Holding whole ∷ scope) zero path type h = let here = path_reaches path whole type h in omega (arith, here)
place_reaches (Referring whole ∷ scope) zero path type h = absurd h
place_reaches (s ∷ scope) (suc position) path type h = let rest = place_reaches scope position path type h in omega (arith, rest)

pub reaches_in_all : (scopes : List Scope) (k position : ℕ) (path : List ℕ) (type : DataType) → IsPlaceIn (scope_at scopes k) position path type →
    base scopes k + (word_in (scope_at scopes k) position + inner (type_at (scope_at scopes k) position) path) + words type ≤ total scopes
reaches_in_all [] k position path type h = absurd h
reaches_in_all (s ∷ scopes) zero position path type h = let here = place_reaches s position path type h in omega (arith, here)
reaches_in_all (s ∷ scopes) (suc k) position path type h = let rest = reaches_in_all scopes k position path type h in omega (arith, rest)

-- ---- parts that don't overlap

field_before : (fields : Fields) (i j : ℕ) → HasField fields j → i < j → offset fields i + words (field_type fields i) ≤ offset fields j
field_before no_field i j h before = absurd h
field_before (field name type rest) i zero h before = absurd (omega (arith, before))
field_before (field name type rest) zero (suc j) h before = omega arith
field_before (field name type rest) (suc i) (suc j) h before = let others = field_before rest i j h (omega (arith, before)) in omega (arith, others)

part_before : (from : DataType) (i j : ℕ) → HasPart from j → i < j → part_offset from i + words (part_type from i) ≤ part_offset from j
part_before (Simple type) i j h before = absurd h
part_before (Array place n element) i j h before =
    let e : suc i * words element ≤ j * words element = mul-le-mul_right (words element) before in
    omega (arith, e)
part_before (Record place fields) i j h before = field_before fields i j h before

-- one ends before the other begins
abbrev pub AreApart : (a m b n : ℕ) → Type 0
AreApart a m b n = (a + m ≤ b) ⊎ (b + n ≤ a)

apart_behind : (c a m b n : ℕ) → AreApart a m b n → AreApart (c + a) m (c + b) n
apart_behind c a m b n (inl h) = inl (omega (arith, h))
apart_behind c a m b n (inr h) = inr (omega (arith, h))

-- which of two is less, if they differ
data Compared (i j : ℕ) : Type 0 where
  less : i < j → Compared i j
  more : j < i → Compared i j
  same : i ≡ j → Compared i j

compared : (i j : ℕ) → Compared i j
compared i j = ⊎_elim (λ h. less h) (λ h. ⊎_elim (λ g. more g) (λ g. same (omega (arith, h, g))) (cases_lt j i)) (cases_lt i j)

paths_apart : (p q : List ℕ) (from s t : DataType) → IsPath from p s → IsPath from q t → (Begins p q → ⊥) → (Begins q p → ⊥) → AreApart (inner from p) (words s) (inner from q) (words t)
paths_apart [] q from s t h g one other = absurd (other tt)
paths_apart (i ∷ p) [] from s t h g one other = absurd (one tt)
paths_apart (i ∷ p) (j ∷ q) from s t h g one other = by (λ part h g one other. paths_apart p q part s t h g one other) (compared i j)
  where
    by : ((part : DataType) → IsPath part p s → IsPath part q t → (Begins p q → ⊥) → (Begins q p → ⊥) → AreApart (inner part p) (words s) (inner part q) (words t)) →
        Compared i j → AreApart (inner from (i ∷ p)) (words s) (inner from (j ∷ q)) (words t)
    by again (less l) =
        let here = path_reaches p (part_type from i) s h.1 in
        let there = part_before from i j g.0 l in
        inl (omega (arith, here, there))
    by again (more l) =
        let here = path_reaches q (part_type from j) t g.1 in
        let there = part_before from j i h.0 l in
        inr (omega (arith, here, there))
    by again (same e) =
        let moved : IsPath (part_type from i) q t = subst (λ (m : ℕ). IsPath (part_type from m) q t) (sym e) g.1 in
        let rest = again (part_type from i) h.1 moved (λ b. one (e, b)) (λ b. other (sym e, b)) in
        let here = apart_behind (part_offset from i) (inner (part_type from i) p) (words s) (inner (part_type from i) q) (words t) rest in
        subst (λ (m : ℕ). AreApart (inner from (i ∷ p)) (words s) (part_offset from m + inner (part_type from m) q) (words t)) e here

pub places_apart : (scope : Scope) (m n : ℕ) (p q : List ℕ) (s t : DataType) → IsPlaceIn scope m p s → IsPlaceIn scope n q t →
    (m ≡ n → Begins p q → ⊥) → (m ≡ n → Begins q p → ⊥) →
    AreApart (word_in scope m + inner (type_at scope m) p) (words s) (word_in scope n + inner (type_at scope n) q) (words t)
places_apart [] m n p q s t h g one other = absurd h
places_apart (Holding whole ∷ scope) zero zero p q s t h g one other =
    apart_behind 0 (inner whole p) (words s) (inner whole q) (words t) (paths_apart p q whole s t h g (one refl) (other refl))
places_apart (Referring whole ∷ scope) zero zero p q s t h g one other = absurd h
places_apart (Holding whole ∷ scope) zero (suc n) p q s t h g one other = let here = path_reaches p whole s h in inl (omega (arith, here))
places_apart (Referring whole ∷ scope) zero (suc n) p q s t h g one other = absurd h
places_apart (Holding whole ∷ scope) (suc m) zero p q s t h g one other = let here = path_reaches q whole t g in inr (omega (arith, here))
places_apart (Referring whole ∷ scope) (suc m) zero p q s t h g one other = absurd g
places_apart (r ∷ scope) (suc m) (suc n) p q s t h g one other =
    by (places_apart scope m n p q s t h g (λ e. one (ap suc e)) (λ e. other (ap suc e)))
  where
    by : AreApart (word_in scope m + inner (type_at scope m) p) (words s) (word_in scope n + inner (type_at scope n) q) (words t) →
        AreApart (width r + word_in scope m + inner (type_at scope m) p) (words s) (width r + word_in scope n + inner (type_at scope n) q) (words t)
    by (inl e) = inl (omega (arith, e))
    by (inr e) = inr (omega (arith, e))
