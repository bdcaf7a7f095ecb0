-- The fields of a record laid one behind the other.
use Rattle.std.proofs.Common.{◌≡◌, ℕ, zero, suc, ◌+◌, ◌<◌, ◌≤◌, true, List, [], ◌∷◌, ◌++◌, map, length, drop, get_or, None, Some, refl, ap, sym, subst, ◌∙◌, arith, String, ◌⊎◌, inl, inr, ⊎_elim}
use Rattle.std.specs.Prelude.{slice_get, string_bytes, nat_le}
use Rattle.std.proofs.lemmas.Bool.{leb-true}
use Rattle.std.proofs.lemmas.List.{drop_more}
use Rattle.std.proofs.lemmas.Option.{slice_get_within, get_or_from_slice_get}
use Rattle.std.proofs.Math.Nat.{mul-le-mul_left}
use Rattle.std.specs.declared.alloc.Global.{Global}
use Rattle.ob_typing.specs.Program
use Rattle.ob_code_scheme.specs.Types.{words, words_of_fields, offset}
use Rattle.ob_checked.specs.declared.types.DataType.{DataType}
use Rattle.ob_checked.specs.Types as Given
use Rattle.ob_checked.specs.Types.{type_by, is_below}
use Rattle.ob_typing.specs.Scopes as Limits
use Rattle.ob_checked.proofs.Numbers.{none, SameBelow, same_behind, same_structure_by}
use Rattle.ob_layout.specs.declared.shapes.Field.{Field}
use Rattle.ob_layout.specs.declared.shapes.Parts.{Parts}
use Rattle.ob_layout.specs.declared.shapes.Parts.TheVariants.{Elements, Fields}
use Rattle.ob_layout.specs.declared.shapes.Shape.{Shape}
use Rattle.ob_layout.specs.Shapes.{fields_by, fields_of, parts_by, shape_by, all_below, is_within, bare, bare_entry, AreOffsets, IsRecord, IsShape}
use Rattle.ob_layout.proofs.ShapeTypes.{and_left, and_right}

-- one field more, of those that are left
pub same_more : (xs : List Field) (f : Field) (rest all : List (String Global × DataType)) (e : String Global × DataType) (left : List (String Global × DataType)) →
    left ≡ e ∷ rest → bare f ≡ bare_entry e → map bare xs ++ map bare_entry left ≡ map bare_entry all →
    map bare (xs ++ f ∷ []) ++ map bare_entry rest ≡ map bare_entry all
same_more xs f rest all e left is same h =
    moved xs f rest ∙ ap (λ b. map bare xs ++ (b ∷ map bare_entry rest)) same ∙ ap (λ l. map bare xs ++ map bare_entry l) (sym is) ∙ h
  where
    moved : (xs : List Field) (f : Field) (rest : List (String Global × DataType)) →
        map bare (xs ++ f ∷ []) ++ map bare_entry rest ≡ map bare xs ++ (bare f ∷ map bare_entry rest)
    moved [] f rest = refl
    moved (x ∷ xs) f rest = ap (λ l. bare x ∷ l) (moved xs f rest)

-- the fields from a place on
pub next_field : (fs : List (String Global × DataType)) (i : ℕ) (f : String Global × DataType) → i < length fs → f ≡ get_or fs i f → drop i fs ≡ f ∷ drop (i + 1) fs
next_field fs i f h e = drop_more fs i f h ∙ ap (λ y. y ∷ drop (i + 1) fs) (sym e)

module _ (ts : List Program.DataType) where
  pub words_more : (xs : List Field) (f : Field) → words_of_fields (fields_by ts (xs ++ f ∷ [])) ≡ words_of_fields (fields_by ts xs) + words (type_by ts f.data_type)
  words_more [] f = omega arith
  words_more (x ∷ xs) f = let rest = words_more xs f in omega (arith, rest)

  placed : (xs : List Field) (f g : Field) (i : ℕ) → slice_get (xs ++ f ∷ []) i ≡ Some g →
      ((slice_get xs i ≡ Some g) × (offset (fields_by ts (xs ++ f ∷ [])) i ≡ offset (fields_by ts xs) i))
      ⊎ ((f ≡ g) × (offset (fields_by ts (xs ++ f ∷ [])) i ≡ words_of_fields (fields_by ts xs)))
  placed [] f g zero at = inr (cc, refl)
  placed [] f g (suc i) at = absurd cc
  placed (x ∷ xs) f g zero at = inl (at, refl)
  placed (x ∷ xs) f g (suc i) at =
      ⊎_elim (λ h. inl (h.0, ap (λ n. words (type_by ts x.data_type) + n) h.1)) (λ h. inr (h.0, ap (λ n. words (type_by ts x.data_type) + n) h.1)) (placed xs f g i at)

  pub offsets_more : (xs : List Field) (f : Field) → AreOffsets ts xs → f.offset ≡ words_of_fields (fields_by ts xs) → AreOffsets ts (xs ++ f ∷ [])
  offsets_more xs f h is i g at =
      ⊎_elim (λ p. h i g p.0 ∙ sym p.1) (λ p. ap (λ (k : Field). k.offset) (sym p.0) ∙ is ∙ sym p.1) (placed xs f g i at)

  -- by names and types alone
  pub fields_same : (fs : List Field) (es : List (String Global × DataType)) → map bare fs ≡ map bare_entry es → fields_by ts fs ≡ Given.fields_by ts es
  fields_same [] [] h = refl
  fields_same [] (e ∷ es) h = absurd cc
  fields_same (f ∷ fs) [] h = absurd cc
  fields_same (f ∷ fs) (e ∷ es) h =
      let first : bare f ≡ bare_entry e = cc in
      let rest : map bare fs ≡ map bare_entry es = cc in
      ap (λ b. Program.field b.0 (type_by ts b.1) (fields_by ts fs)) first ∙ ap (Program.field (string_bytes e.0) (type_by ts e.1)) (fields_same fs es rest)

below_same : (n : ℕ) (fs : List Field) (es : List (String Global × DataType)) → map bare fs ≡ map bare_entry es → Given.all_below n es ≡ true → all_below n fs ≡ true
below_same n [] [] h b = refl
below_same n [] (e ∷ es) h b = absurd cc
below_same n (f ∷ fs) [] h b = absurd cc
below_same n (f ∷ fs) (e ∷ es) h b =
    let first : bare f ≡ bare_entry e = cc in
    let rest : map bare fs ≡ map bare_entry es = cc in
    let here : is_below n f.data_type ≡ true = ap (λ b. is_below n b.1) first ∙ and_left (is_below n e.1) (Given.all_below n es) b in
    let behind = below_same n fs es rest (and_right (is_below n e.1) (Given.all_below n es) b) in
    rw here behind

within_same : (n : ℕ) (p : Parts) (es : List (String Global × DataType)) →
    ((place : ℕ) (us : List Program.DataType) → parts_by us place p ≡ Program.Record place (fields_by us (fields_of p))) →
    map bare (fields_of p) ≡ map bare_entry es → Given.all_below n es ≡ true → is_within n p ≡ true
within_same n (Elements len element) es r h b = let no = r 0 [] in absurd (cc)
within_same n (Fields fields) es r h b = below_same n fields.items es h b

-- a record that was laid stands for its entry
module _ (ts : List Program.DataType) (e : Given.Entry) (entries : List (String Global × DataType)) (s : Shape) (r : IsRecord ts e.place entries s) where
  pub record_stands : Given.entry_by ts e ≡ Program.Record e.place (Given.fields_by ts entries) → shape_by ts s ≡ Given.entry_by ts e
  record_stands is =
      r.record_of s.place ts ∙ ap (λ (k : ℕ). Program.Record k (fields_by ts (fields_of s.parts))) r.place
      ∙ ap (Program.Record e.place) (fields_same ts (fields_of s.parts) entries r.same)
      ∙ sym is

  pub record_shape : (n : ℕ) → Given.entry_by ts e ≡ Program.Record e.place (Given.fields_by ts entries) → words (Given.entry_by ts e) ≤ 4096 →
      Given.is_within n e.structure ≡ Given.all_below n entries → Given.is_within n e.structure ≡ true → IsShape ts n s
  record_shape n same few is within =
      record {
        within = within_same n s.parts entries r.record_of r.same (sym is ∙ within);
        words = r.words;
        small = subst (λ (k : ℕ). k ≤ 4096) (sym (r.words ∙ ap words (record_stands same))) few;
        offsets = r.offsets;
      }

-- words keep the limits

mutual
  pub words_limited : (t : Program.DataType) → words t ≤ Limits.words t
  words_limited (Program.Simple s) = omega arith
  words_limited (Program.Array place count element) = mul-le-mul_left count (words_limited element)
  words_limited (Program.Record place fields) = let most = fields_limited fields in omega (arith, most)

  fields_limited : (fs : Program.Fields) → words_of_fields fs ≤ Limits.words_of_fields fs
  fields_limited Program.no_field = omega arith
  fields_limited (Program.field name t rest) =
      let first = words_limited t in
      let others = fields_limited rest in
      omega (arith, first, others)

small_words : (t : Program.DataType) → Limits.is_small t ≡ true → words t ≤ 4096
small_words t h =
    let limit = leb-true (Limits.words t) 4096 (and_left (nat_le (Limits.words t) 4096) (nat_le (Limits.depth t) 100) h) in
    let most = words_limited t in
    omega (arith, limit, most)

-- the entry that comes next, where those so far stand for types
module _ (es : List Given.Entry) (table : Given.IsTable es) (ts : List Program.DataType) (i : ℕ) (count : length ts ≡ i) where
  module _ (so_far : Given.types_behind ts (drop i es) ≡ Given.types_of es) (e : Given.Entry) (at : Some e ≡ slice_get es i) where
    pub next_there : i < length es
    next_there = slice_get_within es i e (sym at)

    next_left : drop i es ≡ e ∷ drop (i + 1) es
    next_left = drop_more es i e next_there ∙ ap (λ x. x ∷ drop (i + 1) es) (get_or_from_slice_get es i e e (sym at))

    next_same : Given.entry_by ts e ≡ Given.entry_by (Given.types_of es) e
    next_same =
        let below : SameBelow i ts (Given.types_of es) =
        λ k l. sym (ap (λ us. get_or us k none) (sym so_far) ∙ same_behind ts (drop i es) k (subst (λ m. k < m) (sym count) l)) in
        same_structure_by i ts (Given.types_of es) below e.place e.structure (table.entry i e (sym at)).within

    pub next_small : words (Given.entry_by ts e) ≤ 4096
    next_small = small_words (Given.entry_by ts e) (ap Limits.is_small next_same ∙ (table.entry i e (sym at)).small)

    pub next_stands : (us : List Program.DataType) → us ≡ ts ++ Given.entry_by ts e ∷ [] → Given.types_behind us (drop (i + 1) es) ≡ Given.types_of es
    next_stands us is = ap (λ vs. Given.types_behind vs (drop (i + 1) es)) is ∙ sym (ap (Given.types_behind ts) next_left) ∙ so_far

  -- all of them stand for types
  pub none_stands : Given.types_behind ts (drop i es) ≡ Given.types_of es → None ≡ slice_get es i → ts ≡ Given.types_of es
  none_stands so_far none = sym (ap (Given.types_behind ts) (none_left es i none)) ∙ so_far
    where
      none_left : (xs : List Given.Entry) (k : ℕ) → None ≡ slice_get xs k → drop k xs ≡ []
      none_left [] zero h = refl
      none_left [] (suc k) h = refl
      none_left (x ∷ xs) zero h = absurd cc
      none_left (x ∷ xs) (suc k) h = none_left xs k h
