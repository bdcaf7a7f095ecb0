-- The types of a table of shapes: a number keeps its type, and stands for what its shape says.
use Rattle.std.proofs.Common.{◌≡◌, ℕ, zero, suc, ◌+◌, ◌*◌, ◌<◌, ◌≤◌, Bool, true, false, List, [], ◌∷◌, ◌++◌, length, Some, get_or, refl, ap, sym, subst, ◌∙◌, arith, Vec, ◌⊎◌, inl, inr, ⊎_elim}
use Rattle.std.specs.Prelude.{◌&&◌, if◌then◌else◌, slice_get, string_bytes}
use Rattle.std.specs.declared.alloc.Global.{Global}
use Rattle.std.proofs.lemmas.Option.{slice_get_read}
use Rattle.std.proofs.lemmas.List.{get_or_append_left, get_or_push, get_or_past, length-append}
use Rattle.ob_interface.specs.declared.scalar.ScalarType.TheVariants.{Integer}
use Rattle.ob_typing.specs.Program
use Rattle.ob_code_scheme.specs.Types.{words, words_of_fields, offset, field_type, part_type, part_offset}
use Rattle.ob_checked.specs.declared.types.DataType.{DataType}
use Rattle.ob_checked.specs.declared.types.DataType.TheVariants.{Structured}
use Rattle.ob_checked.specs.Types.{type_by, is_below}
use Rattle.ob_checked.proofs.Numbers.{SameBelow, same_type_by}
use Rattle.ob_layout.specs.declared.shapes.Field.{Field}
use Rattle.ob_layout.specs.declared.shapes.Parts.{Parts}
use Rattle.ob_layout.specs.declared.shapes.Parts.TheVariants.{Elements, Fields}
use Rattle.ob_layout.specs.declared.shapes.Shape.{Shape}
use Rattle.ob_layout.specs.Counted.{counted}
use Rattle.ob_layout.specs.Shapes.{fields_by, fields_of, parts_by, shape_by, types_behind, types_of, type_in, all_below, is_within, IsShape, AreShapes}

abbrev pub none : Program.DataType
none = Program.Simple Integer

pub and_left : (a b : Bool) → (a && b) ≡ true → a ≡ true
and_left true b h = refl
and_left false b h = absurd cc

pub and_right : (a b : Bool) → (a && b) ≡ true → b ≡ true
and_right true b h = h
and_right false b h = absurd cc

same_fields_by : (n : ℕ) (ts us : List Program.DataType) → SameBelow n ts us → (fs : List Field) → all_below n fs ≡ true →
    fields_by ts fs ≡ fields_by us fs
same_fields_by n ts us h [] b = refl
same_fields_by n ts us h (f ∷ fs) b =
    let first = same_type_by n ts us h f.data_type (and_left (is_below n f.data_type) (all_below n fs) b) in
    let rest = same_fields_by n ts us h fs (and_right (is_below n f.data_type) (all_below n fs) b) in
    ap (λ t. Program.field (string_bytes f.name) t (fields_by ts fs)) first ∙ ap (λ r. Program.field (string_bytes f.name) (type_by us f.data_type) r) rest

same_fields_of : (n : ℕ) (ts us : List Program.DataType) → SameBelow n ts us → (p : Parts) → is_within n p ≡ true →
    fields_by ts (fields_of p) ≡ fields_by us (fields_of p)
same_fields_of n ts us h (Elements length element) b = refl
same_fields_of n ts us h (Fields fields) b = same_fields_by n ts us h fields.items b

pub same_parts_by : (n : ℕ) (ts us : List Program.DataType) → SameBelow n ts us → (place : ℕ) (s : Parts) → is_within n s ≡ true →
    parts_by ts place s ≡ parts_by us place s
same_parts_by n ts us h place (Elements length element) b = ap (Program.Array place length) (same_type_by n ts us h element b)
same_parts_by n ts us h place (Fields fields) b = ap (Program.Record place) (same_fields_by n ts us h fields.items b)

pub length_behind : (ts : List Program.DataType) (es : List Shape) → length (types_behind ts es) ≡ length ts + length es
length_behind ts [] = omega arith
length_behind ts (e ∷ es) = omega (arith, length_behind (ts ++ shape_by ts e ∷ []) es, length-append ts (shape_by ts e ∷ []))

pub length_of_types : (es : List Shape) → length (types_of es) ≡ length es
length_of_types es = omega (arith, length_behind [] es)

-- what stands before keeps its type
pub same_behind : (ts : List Program.DataType) (es : List Shape) → SameBelow (length ts) (types_behind ts es) ts
same_behind ts [] k h = refl
same_behind ts (e ∷ es) k h =
    let here = ts ++ shape_by ts e ∷ [] in
    let more : k < length here = omega (arith, length-append ts (shape_by ts e ∷ [])) in
    same_behind here es k more ∙ get_or_append_left ts (shape_by ts e ∷ []) none k h

abbrev AllWithin : ℕ → List Shape → Type 0
AllWithin n es = (i : ℕ) (e : Shape) → slice_get es i ≡ Some e → is_within (n + i) e.parts ≡ true

within_first : (n : ℕ) (e : Shape) (es : List Shape) → AllWithin n (e ∷ es) → is_within n e.parts ≡ true
within_first n e es h =
    let same : n + 0 ≡ n = omega arith in
    subst (λ m. is_within m e.parts ≡ true) same (h 0 e refl)

within_rest : (n : ℕ) (e : Shape) (es : List Shape) → AllWithin n (e ∷ es) → AllWithin (n + 1) es
within_rest n e es h i d at =
    let same : n + suc i ≡ (n + 1) + i = omega arith in
    subst (λ m. is_within m d.parts ≡ true) same (h (suc i) d at)

shape_behind : (ts : List Program.DataType) (es : List Shape) (i : ℕ) (e : Shape) → AllWithin (length ts) es → slice_get es i ≡ Some e →
    get_or (types_behind ts es) (length ts + i) none ≡ shape_by (types_behind ts es) e
shape_behind ts [] i e h at = absurd cc
shape_behind ts (d ∷ es) zero e h at =
    let here = ts ++ shape_by ts d ∷ [] in
    let is : d ≡ e = cc in
    let more : length ts + 0 < length here = omega (arith, length-append ts (shape_by ts d ∷ [])) in
    let count : length ts ≡ length ts + 0 = omega arith in
    let found = same_behind here es (length ts + 0) more ∙ get_or_push ts (shape_by ts d) none (length ts + 0) count in
    let below : SameBelow (length ts) ts (types_behind here es) = λ k l. sym (same_behind ts (d ∷ es) k l) in
    found ∙ same_parts_by (length ts) ts (types_behind here es) below d.place d.parts (within_first (length ts) d es h)
    ∙ ap (shape_by (types_behind here es)) is
shape_behind ts (d ∷ es) (suc i) e h at =
    let here = ts ++ shape_by ts d ∷ [] in
    let count : length here ≡ length ts + 1 = length-append ts (shape_by ts d ∷ []) in
    let rest = subst (λ n. AllWithin n es) (sym count) (within_rest (length ts) d es h) in
    let same : length ts + suc i ≡ length here + i = omega (arith, count) in
    ap (λ n. get_or (types_behind here es) n none) same ∙ shape_behind here es i e rest at

-- a number stands for what its entry says
pub type_at : (es : List Shape) → AreShapes es → (n : ℕ) (e : Shape) → slice_get es n ≡ Some e → type_in es (Structured n) ≡ shape_by (types_of es) e
type_at es h n e at =
    let within : AllWithin 0 es = λ i d here. subst (λ m. is_within m d.parts ≡ true) (zero_plus i) ((h.shape i d here).within) in
    ap (λ m. get_or (types_of es) m none) (zero_plus n) ∙ shape_behind [] es n e within at
  where
    zero_plus : (m : ℕ) → m ≡ 0 + m
    zero_plus m = omega arith

-- a number beyond the table is never met
pub type_past : (es : List Shape) (n : ℕ) → length es ≤ n → type_in es (Structured n) ≡ none
type_past es n h = get_or_past (types_of es) n none (omega (arith, h, length_of_types es))

-- one more entry

types_behind-push : (ts : List Program.DataType) (es : List Shape) (e : Shape) →
    types_behind ts (es ++ e ∷ []) ≡ types_behind ts es ++ shape_by (types_behind ts es) e ∷ []
types_behind-push ts [] e = refl
types_behind-push ts (d ∷ es) e = types_behind-push (ts ++ shape_by ts d ∷ []) es e

pub types_of-push : (es : List Shape) (e : Shape) → types_of (es ++ e ∷ []) ≡ types_of es ++ shape_by (types_of es) e ∷ []
types_of-push es e = types_behind-push [] es e

-- the numbers of a table keep their types
pub same_pushed : (es : List Shape) (e : Shape) → SameBelow (length es) (types_of es) (types_of (es ++ e ∷ []))
same_pushed es e k h =
    let more : k < length (types_of es) = omega (arith, length_of_types es, h) in
    sym (ap (λ ts. get_or ts k none) (types_of-push es e) ∙ get_or_append_left (types_of es) (shape_by (types_of es) e ∷ []) none k more)

shape_kept : (ts us : List Program.DataType) (n : ℕ) (s : Shape) → SameBelow n ts us → IsShape ts n s → IsShape us n s
shape_kept ts us n s same h =
    let is = same_parts_by n ts us same s.place s.parts h.within in
    record {
      within = h.within;
      words = h.words ∙ ap words is;
      small = h.small;
      offsets = λ i f at. h.offsets i f at ∙ ap (λ fs. offset fs i) (same_fields_of n ts us same s.parts h.within);
    }

pub shapes_pushed : (es : List Shape) (e : Shape) → AreShapes es → IsShape (types_of es) (length es) e → AreShapes (es ++ e ∷ [])
shapes_pushed es e table new = record { shape = λ n d at. by n d at (pushed_at es e n d at) }
  where
    pushed_at : (xs : List Shape) (x : Shape) (n : ℕ) (d : Shape) → slice_get (xs ++ x ∷ []) n ≡ Some d →
        ((n < length xs) × (slice_get xs n ≡ Some d)) ⊎ ((n ≡ length xs) × (x ≡ d))
    pushed_at [] x zero d at = inr (refl, cc)
    pushed_at [] x (suc n) d at = absurd cc
    pushed_at (y ∷ xs) x zero d at = inl (omega arith, at)
    pushed_at (y ∷ xs) x (suc n) d at =
        ⊎_elim (λ h. inl (let l : n < length xs = h.0 in let m : suc n < suc (length xs) = omega arith in m, h.1)) (λ h. inr (ap suc h.0, h.1)) (pushed_at xs x n d at)

    below : (k n m : ℕ) → k < n → n < m → k < m
    below k n m h l = omega arith

    by : (n : ℕ) (d : Shape) → slice_get (es ++ e ∷ []) n ≡ Some d →
        ((n < length es) × (slice_get es n ≡ Some d)) ⊎ ((n ≡ length es) × (e ≡ d)) → IsShape (types_of (es ++ e ∷ [])) n d
    by n d at (inl h) = shape_kept (types_of es) (types_of (es ++ e ∷ [])) n d (λ k l. same_pushed es e k (below k n (length es) l h.0)) (table.shape n d h.1)
    by n d at (inr h) =
        let here : IsShape (types_of (es ++ e ∷ [])) (length es) e = shape_kept (types_of es) (types_of (es ++ e ∷ [])) (length es) e (same_pushed es e) new in
        let P : ℕ → Type 0 = λ m. IsShape (types_of (es ++ e ∷ [])) m d in
        let Q : Shape → Type 0 = λ x. IsShape (types_of (es ++ e ∷ [])) (length es) x in
        subst P (sym h.0) (subst Q h.1 here)

-- what a shape added leaves
pub shapes_if : (es : List Shape) (e : Shape) → AreShapes es → IsShape (types_of es) (length es) e →
    (b : Bool) (ys : List Shape) → ys ≡ (if b then es ++ e ∷ [] else es) → AreShapes ys
shapes_if es e table new true ys is = subst AreShapes (sym is) (shapes_pushed es e table new)
shapes_if es e table new false ys is = subst AreShapes (sym is) table

-- what the shape of a number says of its type
module _ (es xs : List Shape) (table : AreShapes es) (t : DataType) (n : ℕ) (is : t ≡ Structured n) (read : xs ≡ es) where
  module _ (e : Shape) (here : n < length xs) (found : e ≡ get_or xs n e) where
    shape_here : slice_get es n ≡ Some e
    shape_here = ap (λ ys. slice_get ys n) (sym read) ∙ slice_get_read xs (length xs) n e refl here found

    pub shape_type : type_in es t ≡ shape_by (types_of es) e
    shape_type = ap (type_in es) is ∙ type_at es table n e shape_here

    pub words_at : e.words ≡ words (type_in es t)
    words_at = (table.shape n e shape_here).words ∙ ap words (sym shape_type)

  module _ (beyond : length xs ≤ n) where
    pub no_shape_type : type_in es t ≡ none
    no_shape_type = ap (type_in es) is ∙ type_past es n (subst (λ ys. length ys ≤ n) read beyond)

    pub no_part : (i : ℕ) → type_in es (Structured n) ≡ part_type (type_in es t) i
    no_part i = sym (ap (type_in es) is) ∙ no_shape_type ∙ sym (ap (λ u. part_type u i) no_shape_type)

-- a count within the limits does not stop
few_counted : (m k : ℕ) → m ≤ k → k ≤ 4096 → m ≡ counted m
few_counted m k h few = omega (arith, h, few)

no_more : (m : ℕ) → m ≤ m
no_more m = omega arith

-- fields at their positions, and behind the last one
module _ (ts : List Program.DataType) where
  offset_past : (fs : List Field) (i : ℕ) → length fs ≤ i → offset (fields_by ts fs) i ≡ words_of_fields (fields_by ts fs)
  offset_past [] i h = refl
  offset_past (f ∷ fs) zero h = absurd (omega (arith, h))
  offset_past (f ∷ fs) (suc i) h = ap (λ n. words (type_by ts f.data_type) + n) (offset_past fs i (omega (arith, h)))

  -- so many words at most
  offset_within : (fs : List Field) (i : ℕ) → offset (fields_by ts fs) i ≤ words_of_fields (fields_by ts fs)
  offset_within [] i = omega arith
  offset_within (f ∷ fs) zero = omega arith
  offset_within (f ∷ fs) (suc i) = let rest = offset_within fs i in omega (arith, rest)

  field_type_at : (fs : List Field) (i : ℕ) (f : Field) → slice_get fs i ≡ Some f → field_type (fields_by ts fs) i ≡ type_by ts f.data_type
  field_type_at [] i f h = absurd cc
  field_type_at (g ∷ fs) zero f h = let same : g ≡ f = cc in ap (λ (x : Field). type_by ts x.data_type) same
  field_type_at (g ∷ fs) (suc i) f h = field_type_at fs i f h

  field_type_past : (fs : List Field) (i : ℕ) → length fs ≤ i → field_type (fields_by ts fs) i ≡ none
  field_type_past [] i h = refl
  field_type_past (f ∷ fs) zero h = absurd (omega (arith, h))
  field_type_past (f ∷ fs) (suc i) h = field_type_past fs i (omega (arith, h))

-- the parts of an array and of a record
module _ (es xs : List Shape) (table : AreShapes es) (t : DataType) (n : ℕ) (is : t ≡ Structured n) (read : xs ≡ es) (e : Shape) (here : n < length xs) (found : e ≡ get_or xs n e) (i : ℕ) where
  parts_type : (p : Parts) → e.parts ≡ p → type_in es t ≡ parts_by (types_of es) e.place p
  parts_type p shape = shape_type es xs table t n is read e here found ∙ ap (parts_by (types_of es) e.place) shape

  module _ (size : ℕ) (element : DataType) (shape : e.parts ≡ Elements size element) where
    pub element_type : type_in es element ≡ part_type (type_in es t) i
    element_type = sym (ap (λ u. part_type u i) (parts_type _ shape))

    pub element_offset : i * words (type_in es element) ≡ part_offset (type_in es t) i
    element_offset = sym (ap (λ u. part_offset u i) (parts_type _ shape))

  module _ (fields : Vec Field Global) (shape : e.parts ≡ Fields fields) (ys : List Field) (same : ys ≡ fields.items) where
    module _ (f : Field) (within : i < length ys) (got : f ≡ get_or ys i f) where
      field_here : slice_get fields.items i ≡ Some f
      field_here = ap (λ zs. slice_get zs i) (sym same) ∙ slice_get_read ys (length ys) i f refl within got

      pub field_part : type_in es f.data_type ≡ part_type (type_in es t) i
      field_part = sym (ap (λ u. part_type u i) (parts_type _ shape) ∙ field_type_at (types_of es) fields.items i f field_here)

      pub field_at : f.offset ≡ counted (part_offset (type_in es t) i)
      field_at =
          let laid = table.shape n e (shape_here es xs table t n is read e here found) in
          let at = laid.offsets i f (ap (λ p. slice_get (fields_of p) i) shape ∙ field_here) ∙ ap (λ p. offset (fields_by (types_of es) (fields_of p)) i) shape in
          let whole = laid.words ∙ ap (λ p. words (parts_by (types_of es) e.place p)) shape in
          at ∙ few_counted (offset (fields_by (types_of es) fields.items) i) (words_of_fields (fields_by (types_of es) fields.items)) (offset_within (types_of es) fields.items i)
          (subst (λ k. k ≤ 4096) whole laid.small)
          ∙ sym (ap (λ u. counted (part_offset u i)) (parts_type _ shape))

    module _ (beyond : length ys ≤ i) where
      far : length fields.items ≤ i
      far = subst (λ zs. length zs ≤ i) same beyond

      pub no_field_part : none ≡ part_type (type_in es t) i
      no_field_part = sym (ap (λ u. part_type u i) (parts_type _ shape) ∙ field_type_past (types_of es) fields.items i far)

      pub field_end : e.words ≡ counted (part_offset (type_in es t) i)
      field_end =
          let laid = table.shape n e (shape_here es xs table t n is read e here found) in
          let whole = laid.words ∙ ap (λ p. words (parts_by (types_of es) e.place p)) shape ∙ sym (offset_past (types_of es) fields.items i far) in
          whole ∙ few_counted (offset (fields_by (types_of es) fields.items) i) (offset (fields_by (types_of es) fields.items) i) (no_more (offset (fields_by (types_of es) fields.items) i))
          (subst (λ k. k ≤ 4096) whole laid.small)
          ∙ sym (ap (λ u. counted (part_offset u i)) (parts_type _ shape))
