-- The types of a table: a number keeps its type, and stands for what its entry says.
use Rattle.std.proofs.lemmas.Bool.{le-leb}
use Rattle.std.proofs.Common.{◌≡◌, ℕ, zero, suc, ◌+◌, ◌<◌, ◌≤◌, Bool, true, false, List, [], ◌∷◌, ◌++◌, length, Some, get_or, refl, ap, sym, subst, ◌∙◌, arith, String, ltb-true, ◌⊎◌, inl, inr, ⊎_elim}
use Rattle.std.specs.Prelude.{◌&&◌, if◌then◌else◌, slice_get, string_bytes}
use Rattle.std.specs.declared.alloc.Global.{Global}
use Rattle.std.proofs.lemmas.Option.{slice_get_read}
use Rattle.std.proofs.lemmas.List.{get_or_append_left, get_or_push, get_or_past, length-append}
use Rattle.ob_interface.specs.declared.scalar.ScalarType.TheVariants.{Integer}
use Rattle.ob_typing.specs.Program
use Rattle.ob_typing.specs.Scopes.{words, depth, is_small}
use Rattle.ob_checked.specs.declared.types.DataType.{DataType}
use Rattle.ob_checked.specs.declared.types.DataType.TheVariants.{Simple, Structured}
use Rattle.ob_checked.specs.declared.types.Structure.{Structure}
use Rattle.ob_checked.specs.declared.types.Structure.TheVariants.{Array, Record}
use Rattle.ob_checked.specs.Types.{Entry, type_by, fields_in, fields_by, structure_by, entry_by, types_behind, types_of, type_in, is_below, all_below, is_within, IsEntry, IsTable, Extends}

abbrev pub none : Program.DataType
none = Program.Simple Integer

-- the numbers below n stand for the same
abbrev pub SameBelow : ℕ → List Program.DataType → List Program.DataType → Type 0
SameBelow n ts us = (k : ℕ) → k < n → get_or ts k none ≡ get_or us k none

and_left : (a b : Bool) → (a && b) ≡ true → a ≡ true
and_left true b h = refl
and_left false b h = absurd cc

and_right : (a b : Bool) → (a && b) ≡ true → b ≡ true
and_right true b h = h
and_right false b h = absurd cc

pub same_type_by : (n : ℕ) (ts us : List Program.DataType) → SameBelow n ts us → (t : DataType) → is_below n t ≡ true → type_by ts t ≡ type_by us t
same_type_by n ts us h (Simple s) b = refl
same_type_by n ts us h (Structured k) b = h k (ltb-true k n b)

same_fields_by : (n : ℕ) (ts us : List Program.DataType) → SameBelow n ts us → (fs : List (String Global × DataType)) → all_below n fs ≡ true →
    fields_by ts fs ≡ fields_by us fs
same_fields_by n ts us h [] b = refl
same_fields_by n ts us h (f ∷ fs) b =
    let first = same_type_by n ts us h f.1 (and_left (is_below n f.1) (all_below n fs) b) in
    let rest = same_fields_by n ts us h fs (and_right (is_below n f.1) (all_below n fs) b) in
    ap (λ t. Program.field (string_bytes f.0) t (fields_by ts fs)) first ∙ ap (λ r. Program.field (string_bytes f.0) (type_by us f.1) r) rest

pub same_structure_by : (n : ℕ) (ts us : List Program.DataType) → SameBelow n ts us → (place : ℕ) (s : Structure) → is_within n s ≡ true →
    structure_by ts place s ≡ structure_by us place s
same_structure_by n ts us h place (Array length element) b = ap (Program.Array place length) (same_type_by n ts us h element b)
same_structure_by n ts us h place (Record fields) b = ap (Program.Record place) (same_fields_by n ts us h (fields_in fields) b)

pub length_behind : (ts : List Program.DataType) (es : List Entry) → length (types_behind ts es) ≡ length ts + length es
length_behind ts [] = omega arith
length_behind ts (e ∷ es) = omega (arith, length_behind (ts ++ entry_by ts e ∷ []) es, length-append ts (entry_by ts e ∷ []))

pub length_of_types : (es : List Entry) → length (types_of es) ≡ length es
length_of_types es = omega (arith, length_behind [] es)

-- what stands before keeps its type
pub same_behind : (ts : List Program.DataType) (es : List Entry) → SameBelow (length ts) (types_behind ts es) ts
same_behind ts [] k h = refl
same_behind ts (e ∷ es) k h =
    let here = ts ++ entry_by ts e ∷ [] in
    let more : k < length here = omega (arith, length-append ts (entry_by ts e ∷ [])) in
    same_behind here es k more ∙ get_or_append_left ts (entry_by ts e ∷ []) none k h

abbrev AllWithin : ℕ → List Entry → Type 0
AllWithin n es = (i : ℕ) (e : Entry) → slice_get es i ≡ Some e → is_within (n + i) e.structure ≡ true

within_first : (n : ℕ) (e : Entry) (es : List Entry) → AllWithin n (e ∷ es) → is_within n e.structure ≡ true
within_first n e es h =
    let same : n + 0 ≡ n = omega arith in
    subst (λ m. is_within m e.structure ≡ true) same (h 0 e refl)

within_rest : (n : ℕ) (e : Entry) (es : List Entry) → AllWithin n (e ∷ es) → AllWithin (n + 1) es
within_rest n e es h i d at =
    let same : n + suc i ≡ (n + 1) + i = omega arith in
    subst (λ m. is_within m d.structure ≡ true) same (h (suc i) d at)

entry_behind : (ts : List Program.DataType) (es : List Entry) (i : ℕ) (e : Entry) → AllWithin (length ts) es → slice_get es i ≡ Some e →
    get_or (types_behind ts es) (length ts + i) none ≡ entry_by (types_behind ts es) e
entry_behind ts [] i e h at = absurd cc
entry_behind ts (d ∷ es) zero e h at =
    let here = ts ++ entry_by ts d ∷ [] in
    let is : d ≡ e = cc in
    let more : length ts + 0 < length here = omega (arith, length-append ts (entry_by ts d ∷ [])) in
    let count : length ts ≡ length ts + 0 = omega arith in
    let found = same_behind here es (length ts + 0) more ∙ get_or_push ts (entry_by ts d) none (length ts + 0) count in
    let below : SameBelow (length ts) ts (types_behind here es) = λ k l. sym (same_behind ts (d ∷ es) k l) in
    found ∙ same_structure_by (length ts) ts (types_behind here es) below d.place d.structure (within_first (length ts) d es h)
    ∙ ap (entry_by (types_behind here es)) is
entry_behind ts (d ∷ es) (suc i) e h at =
    let here = ts ++ entry_by ts d ∷ [] in
    let count : length here ≡ length ts + 1 = length-append ts (entry_by ts d ∷ []) in
    let rest = subst (λ n. AllWithin n es) (sym count) (within_rest (length ts) d es h) in
    let same : length ts + suc i ≡ length here + i = omega (arith, count) in
    ap (λ n. get_or (types_behind here es) n none) same ∙ entry_behind here es i e rest at

-- a number stands for what its entry says
pub type_at : (es : List Entry) → IsTable es → (n : ℕ) (e : Entry) → slice_get es n ≡ Some e → type_in es (Structured n) ≡ entry_by (types_of es) e
type_at es h n e at =
    let within : AllWithin 0 es = λ i d here. subst (λ m. is_within m d.structure ≡ true) (zero_plus i) ((h.entry i d here).within) in
    ap (λ m. get_or (types_of es) m none) (zero_plus n) ∙ entry_behind [] es n e within at
  where
    zero_plus : (m : ℕ) → m ≡ 0 + m
    zero_plus m = omega arith

-- a number beyond the table is never met
pub type_past : (es : List Entry) (n : ℕ) → length es ≤ n → type_in es (Structured n) ≡ none
type_past es n h = get_or_past (types_of es) n none (omega (arith, h, length_of_types es))

-- what the entry of a number says of its type
module _ (es xs : List Entry) (table : IsTable es) (t : DataType) (n : ℕ) (is : t ≡ Structured n) (read : xs ≡ es) where
  module _ (e : Entry) (here : n < length xs) (found : e ≡ get_or xs n e) where
    entry_here : slice_get es n ≡ Some e
    entry_here = ap (λ ys. slice_get ys n) (sym read) ∙ slice_get_read xs (length xs) n e refl here found

    pub entry_type : type_in es t ≡ entry_by (types_of es) e
    entry_type = ap (type_in es) is ∙ type_at es table n e entry_here

    pub words_at : e.words ≡ words (type_in es t)
    words_at = (table.entry n e entry_here).words ∙ ap words (sym entry_type)

    pub depth_at : e.depth ≡ depth (type_in es t)
    depth_at = (table.entry n e entry_here).depth ∙ ap depth (sym entry_type)

  module _ (beyond : length xs ≤ n) where
    pub no_entry_type : type_in es t ≡ none
    no_entry_type = ap (type_in es) is ∙ type_past es n (subst (λ ys. length ys ≤ n) read beyond)

-- one more entry

types_behind-push : (ts : List Program.DataType) (es : List Entry) (e : Entry) →
    types_behind ts (es ++ e ∷ []) ≡ types_behind ts es ++ entry_by (types_behind ts es) e ∷ []
types_behind-push ts [] e = refl
types_behind-push ts (d ∷ es) e = types_behind-push (ts ++ entry_by ts d ∷ []) es e

pub types_of-push : (es : List Entry) (e : Entry) → types_of (es ++ e ∷ []) ≡ types_of es ++ entry_by (types_of es) e ∷ []
types_of-push es e = types_behind-push [] es e

-- the numbers of a table keep their types
pub same_pushed : (es : List Entry) (e : Entry) → SameBelow (length es) (types_of es) (types_of (es ++ e ∷ []))
same_pushed es e k h =
    let more : k < length (types_of es) = omega (arith, length_of_types es, h) in
    sym (ap (λ ts. get_or ts k none) (types_of-push es e) ∙ get_or_append_left (types_of es) (entry_by (types_of es) e ∷ []) none k more)

entry_kept : (ts us : List Program.DataType) (n : ℕ) (e : Entry) → SameBelow n ts us → IsEntry ts n e → IsEntry us n e
entry_kept ts us n e same h =
    let is = same_structure_by n ts us same e.place e.structure h.within in
    record {
      within = h.within;
      words = h.words ∙ ap words is;
      depth = h.depth ∙ ap depth is;
      small = ap is_small (sym is) ∙ h.small;
    }

pub table_pushed : (es : List Entry) (e : Entry) → IsTable es → IsEntry (types_of es) (length es) e → IsTable (es ++ e ∷ [])
table_pushed es e table new = record { entry = λ n d at. by n d at (pushed_at es e n d at) }
  where
    pushed_at : (xs : List Entry) (x : Entry) (n : ℕ) (d : Entry) → slice_get (xs ++ x ∷ []) n ≡ Some d →
        ((n < length xs) × (slice_get xs n ≡ Some d)) ⊎ ((n ≡ length xs) × (x ≡ d))
    pushed_at [] x zero d at = inr (refl, cc)
    pushed_at [] x (suc n) d at = absurd cc
    pushed_at (y ∷ xs) x zero d at = inl (omega arith, at)
    pushed_at (y ∷ xs) x (suc n) d at =
        ⊎_elim (λ h. inl (let l : n < length xs = h.0 in let m : suc n < suc (length xs) = omega arith in m, h.1)) (λ h. inr (ap suc h.0, h.1)) (pushed_at xs x n d at)

    below : (k n m : ℕ) → k < n → n < m → k < m
    below k n m h l = omega arith

    by : (n : ℕ) (d : Entry) → slice_get (es ++ e ∷ []) n ≡ Some d →
        ((n < length es) × (slice_get es n ≡ Some d)) ⊎ ((n ≡ length es) × (e ≡ d)) → IsEntry (types_of (es ++ e ∷ [])) n d
    by n d at (inl h) = entry_kept (types_of es) (types_of (es ++ e ∷ [])) n d (λ k l. same_pushed es e k (below k n (length es) l h.0)) (table.entry n d h.1)
    by n d at (inr h) =
        let here : IsEntry (types_of (es ++ e ∷ [])) (length es) e = entry_kept (types_of es) (types_of (es ++ e ∷ [])) (length es) e (same_pushed es e) new in
        let P : ℕ → Type 0 = λ m. IsEntry (types_of (es ++ e ∷ [])) m d in
        let Q : Entry → Type 0 = λ x. IsEntry (types_of (es ++ e ∷ [])) (length es) x in
        subst P (sym h.0) (subst Q h.1 here)

-- a type of so many words, in which parts are so deep, keeps the limits
pub small_within : (t : Program.DataType) (w d : ℕ) → w ≡ words t → d + 1 ≡ depth t → w ≤ 4096 → d < 100 → is_small t ≡ true
small_within t w d is at few shallow =
    let few' : words t ≤ 4096 = omega (arith, is, few) in
    let shallow' : depth t ≤ 100 = omega (arith, at, shallow) in
    rw (le-leb (words t) 4096 few') (rw (le-leb (depth t) 100 shallow') refl)

-- an array or a record of so many words, in which parts are so deep, as an entry behind others
module _ (es : List Entry) (place : ℕ) (structure : Structure) (w d : ℕ) where
  abbrev pub entry_with : Entry
  entry_with = record { place = place; structure = structure; words = w; depth = d + 1 }

  pub new_entry : is_within (length es) structure ≡ true → w ≡ words (structure_by (types_of es) place structure) →
      d + 1 ≡ depth (structure_by (types_of es) place structure) → w ≤ 4096 → d < 100 → IsEntry (types_of es) (length es) entry_with
  new_entry within is at few shallow =
      record { within = within; words = is; depth = at; small = small_within (structure_by (types_of es) place structure) w d is at few shallow }

-- what a type added to a table leaves, and what its number stands for
module _ (es : List Entry) (e : Entry) (table : IsTable es) (new : IsEntry (types_of es) (length es) e) where
  pub table_if : (b : Bool) (ys : List Entry) → ys ≡ (if b then es ++ e ∷ [] else es) → IsTable ys
  table_if true ys is = subst IsTable (sym is) (table_pushed es e table new)
  table_if false ys is = subst IsTable (sym is) table

  module _ (ys : List Entry) (is : ys ≡ es ++ e ∷ []) where
    pub number_given : (n : ℕ) → n ≡ length es → get_or (types_of ys) n none ≡ entry_by (types_of es) e
    number_given n at =
        ap (λ zs. get_or (types_of zs) n none) is ∙ ap (λ ts. get_or ts n none) (types_of-push es e)
        ∙ get_or_push (types_of es) (entry_by (types_of es) e) none n (length_of_types es ∙ sym at)

    pub extends : Extends es ys
    extends = record {
      longer = omega (arith, ap length is, length-append es (e ∷ []));
      same = λ t b. ap (λ zs. type_in zs t) is ∙ sym (same_type_by (length es) (types_of es) (types_of (es ++ e ∷ [])) (same_pushed es e) t b);
    }
