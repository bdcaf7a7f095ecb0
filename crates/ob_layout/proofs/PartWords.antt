-- Which parts a type has, and the words before a part that stands further in.
use Rattle.std.proofs.Common.{◌≡◌, ℕ, zero, suc, ◌+◌, ◌<◌, ◌≤◌, List, [], ◌∷◌, length, map, Some, None, get_or, nat_lt, Vec, refl, ap, sym, subst, ◌∙◌, arith, inl, inr}
use Rattle.std.specs.Prelude.{◌⊎◌, ◌↔◌, IsTrue, slice_get}
use Rattle.std.specs.declared.alloc.Global.{Global}
use Rattle.std.proofs.lemmas.Bool.Decides.{nat_tests}
use Rattle.std.proofs.lemmas.Option.{slice_get_cases, slice_get_read}
use Rattle.ob_typing.specs.Program
use Rattle.ob_code_scheme.specs.Types as Sizes
use Rattle.ob_code_scheme.specs.Types.{words, part_type, part_offset, inner, extent, variables_scope, type_at, IsPath, HasField}
use Rattle.ob_code_correct.proofs.Paths.{path_reaches, place_reaches}
use Rattle.ob_code_scheme.specs.Memory.{part_word}
use Rattle.ob_checked.specs.declared.types.DataType.{DataType}
use Rattle.ob_checked.specs.declared.types.DataType.TheVariants.{Simple, Structured}
use Rattle.ob_checked.specs.declared.program.Variable.{Variable}
use Rattle.ob_checked.specs.Types.{type_by}
use Rattle.ob_layout.specs.declared.shapes.Field.{Field}
use Rattle.ob_layout.specs.declared.shapes.Parts.{Parts}
use Rattle.ob_layout.specs.declared.shapes.Parts.TheVariants.{Elements, Fields}
use Rattle.ob_layout.specs.declared.shapes.Shape.{Shape}
use Rattle.ob_layout.specs.Counted.{counted}
use Rattle.ob_layout.specs.Frames.{variable_by}
use Rattle.ob_layout.specs.Places.{HasPart, HasPlace}
use Rattle.ob_layout.specs.Shapes.{fields_by, parts_by, types_of, type_in, AreShapes}
use Rattle.ob_layout.proofs.ShapeTypes.{type_past}
use Rattle.ob_layout.proofs.ShapeTypes as ShapeTypes

-- fields at positions below their number
pub field_there : (ts : List Program.DataType) (fs : List Field) (i : ℕ) → i < length fs → HasField (fields_by ts fs) i
field_there ts [] i h = absurd (omega (arith, h))
field_there ts (f ∷ fs) zero h = tt
field_there ts (f ∷ fs) (suc i) h = field_there ts fs i (omega (arith, h))

pub field_below : (ts : List Program.DataType) (fs : List Field) (i : ℕ) → HasField (fields_by ts fs) i → i < length fs
field_below ts [] i h = absurd h
field_below ts (f ∷ fs) zero h = omega arith
field_below ts (f ∷ fs) (suc i) h = let rest = field_below ts fs i h in omega (arith, rest)

-- which parts an array and a record have
module _ (es xs : List Shape) (table : AreShapes es) (t : DataType) (n : ℕ) (is : t ≡ Structured n) (read : xs ≡ es) (e : Shape) (here : n < length xs) (found : e ≡ get_or xs n e) (i : ℕ) where
  type_is : (p : Parts) → e.parts ≡ p → type_in es t ≡ parts_by (types_of es) e.place p
  type_is p shape = ShapeTypes.shape_type es xs table t n is read e here found ∙ ap (parts_by (types_of es) e.place) shape

  pub element_there : (size : ℕ) (element : DataType) → e.parts ≡ Elements size element → IsTrue (nat_lt i size) ↔ Sizes.HasPart (type_in es t) i
  element_there size element shape =
      subst (λ (u : Program.DataType). IsTrue (nat_lt i size) ↔ Sizes.HasPart u i) (sym (type_is (Elements size element) shape))
      ((λ h. grind (arith, nat_tests)), (λ h. grind (arith, nat_tests)))

  pub fields_there : (fields : Vec Field Global) → e.parts ≡ Fields fields → IsTrue (nat_lt i (length fields.items)) ↔ Sizes.HasPart (type_in es t) i
  fields_there fields shape =
      subst (λ (u : Program.DataType). IsTrue (nat_lt i (length fields.items)) ↔ Sizes.HasPart u i) (sym (type_is (Fields fields) shape)) (
        (λ h. field_there (types_of es) fields.items i (grind (arith, nat_tests))),
        (λ h. let below = field_below (types_of es) fields.items i h in grind (arith, nat_tests)),
      )

-- no type of a table has more words than the block may have
pub few_words : (es : List Shape) → AreShapes es → (t : DataType) → words (type_in es t) ≤ 4096
few_words es table (Simple s) = omega arith
few_words es table (Structured n) = by ((slice_get_cases es n).1)
  where
    by : ((x : Shape) × (n < length es) × (slice_get es n ≡ Some x) × (get_or es n x ≡ x)) ⊎ ((length es ≤ n) × (slice_get es n ≡ None)) → words (type_in es (Structured n)) ≤ 4096
    by (inl h) =
        let s = table.shape n h.0 h.2 in
        let is = s.words ∙ ap words (sym (ShapeTypes.type_at es table n h.0 h.2)) in
        let small = s.small in
        omega (arith, is, small)
    by (inr h) = let is = ap words (type_past es n h.0) in omega (arith, is)

-- ---- a part further in

module _ (es : List Shape) (table : AreShapes es) (t part : DataType) (i : ℕ) (rest : List ℕ) (is : type_in es part ≡ part_type (type_in es t) i) where
  pub leads_on : Sizes.HasPart (type_in es t) i → HasPart (type_in es part) rest → HasPart (type_in es t) (i ∷ rest)
  leads_on here h = (h.0, (here, subst (λ (u : Program.DataType). IsPath u rest h.0) is h.1))

  pub leads_from : HasPart (type_in es t) (i ∷ rest) → HasPart (type_in es part) rest
  leads_from h = (h.0, subst (λ (u : Program.DataType). IsPath u rest h.0) (sym is) h.1.1)

  pub record Summed (offset within : ℕ) : Type 0 where
    pub few : offset + within ≤ 4096
    pub sum : offset + within ≡ inner (type_in es t) (i ∷ rest)

  pub summed : Sizes.HasPart (type_in es t) i → HasPart (type_in es part) rest → (offset within : ℕ) →
      offset ≡ counted (part_offset (type_in es t) i) → within ≡ inner (type_in es part) rest → Summed offset within
  summed here h offset within o w =
      let leads = leads_on here h in
      let reach = path_reaches (i ∷ rest) (type_in es t) leads.0 leads.1 in
      let few = few_words es table t in
      let same = w ∙ ap (λ (u : Program.DataType). inner u rest) is in
      record { few = omega (arith, reach, few, o, same); sum = omega (arith, reach, few, o, same) }

-- ---- a part of a variable

pub found_in : (xs vs : List Variable) → xs ≡ vs → (i : ℕ) (v : Variable) → i < length xs → v ≡ get_or xs i v → slice_get vs i ≡ Some v
found_in xs vs same i v below got = ap (λ (us : List Variable). slice_get us i) (sym same) ∙ slice_get_read xs (length xs) i v refl below got

module _ (ts : List Program.DataType) where
  pub place_here : (vs : List Variable) (i : ℕ) (v : Variable) → slice_get vs i ≡ Some v → (path : List ℕ) → HasPart (type_by ts v.data_type) path → HasPlace (map (variable_by ts) vs) i path
  place_here [] i v at path h = absurd (cc (at))
  place_here (w ∷ vs) zero v at path h =
      let same : v ≡ w = cc (at) in
      subst (λ (x : Variable). HasPart (type_by ts x.data_type) path) same h
  place_here (w ∷ vs) (suc i) v at path h = place_here vs i v at path h

  pub part_here : (vs : List Variable) (i : ℕ) (v : Variable) → slice_get vs i ≡ Some v → (path : List ℕ) → HasPlace (map (variable_by ts) vs) i path → HasPart (type_by ts v.data_type) path
  part_here [] i v at path h = absurd (cc (at))
  part_here (w ∷ vs) zero v at path h =
      let same : w ≡ v = cc (at) in
      subst (λ (x : Variable). HasPart (type_by ts x.data_type) path) same h
  part_here (w ∷ vs) (suc i) v at path h = part_here vs i v at path h

  pub no_place : (vs : List Variable) (i : ℕ) → length vs ≤ i → (path : List ℕ) → HasPlace (map (variable_by ts) vs) i path → ⊥
  no_place [] i past path h = absurd h.1
  no_place (w ∷ vs) zero past path h = absurd (omega (arith, past))
  no_place (w ∷ vs) (suc i) past path h = no_place vs i (omega (arith, past)) path h

  type_here : (vs : List Variable) (i : ℕ) (v : Variable) → slice_get vs i ≡ Some v → type_at (variables_scope (map (variable_by ts) vs)) i ≡ type_by ts v.data_type
  type_here [] i v at = absurd (cc (at))
  type_here (w ∷ vs) zero v at = let same : w ≡ v = cc (at) in ap (λ (x : Variable). type_by ts x.data_type) same
  type_here (w ∷ vs) (suc i) v at = type_here vs i v at

  module _ (vs : List Variable) (i : ℕ) (v : Variable) (at : slice_get vs i ≡ Some v) (path : List ℕ) (within : ℕ) (is : within ≡ inner (type_by ts v.data_type) path) where
    pub word_here : Sizes.word_in (variables_scope (map (variable_by ts) vs)) i + within ≡ part_word (map (variable_by ts) vs) i path
    word_here =
        ap (λ (n : ℕ). Sizes.word_in (variables_scope (map (variable_by ts) vs)) i + n)
        (is ∙ ap (λ (t : Program.DataType). inner t path) (sym (type_here vs i v at)))

    pub within_extent : HasPart (type_by ts v.data_type) path → Sizes.word_in (variables_scope (map (variable_by ts) vs)) i + within ≤ extent (variables_scope (map (variable_by ts) vs))
    within_extent h =
        let place = place_here vs i v at path h in
        let reach = place_reaches (variables_scope (map (variable_by ts) vs)) i path place.0 place.1 in
        let word = word_here in
        omega (arith, reach, word)
