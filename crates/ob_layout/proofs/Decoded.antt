-- Values read from words, one behind the other.
use Rattle.std.proofs.Common.{◌≡◌, ℕ, zero, suc, ◌+◌, ◌<◌, ◌≤◌, max, ℤ, pos, true, List, [], ◌∷◌, ◌++◌, drop, length, get_or, Option, Some, None, option_map, Vec, refl, ap, sym, ◌∙◌, arith, ltb-true}
use Rattle.std.specs.Prelude.{slice_get}
use Rattle.std.proofs.lemmas.List.{drop_more}
use Rattle.ob_typing.specs.Program as Program
use Rattle.ob_code_scheme.specs.Layout as Words
use Rattle.ob_code_scheme.specs.Layout.{◌>>=◌}
use Rattle.ob_meaning.specs.ByPositionValue as Values
use Rattle.ob_checked.specs.declared.types.DataType.{DataType}
use Rattle.ob_checked.specs.declared.types.DataType.TheVariants.{Simple, Structured}
use Rattle.ob_checked.specs.Types.{type_by, is_below}
use Rattle.ob_store.specs.declared.value.Value.{Value}
use Rattle.ob_store.specs.declared.value.Value.TheVariants as Variants
use Rattle.ob_store.specs.View.{value_in, values_in}
use Rattle.ob_store.proofs.Parts.{value_in-parts}
use Rattle.std.specs.declared.alloc.Global.{Global}
use Rattle.ob_layout.specs.declared.shapes.Field.{Field}
use Rattle.ob_layout.specs.declared.shapes.Parts.TheVariants.{Elements, Fields}
use Rattle.ob_layout.specs.declared.shapes.Shape.{Shape}
use Rattle.ob_layout.specs.Reading.{parts_read, whole_of}
use Rattle.ob_layout.specs.Shapes.{fields_by, parts_by, types_of, type_in, all_below, is_within, AreShapes}
use Rattle.ob_layout.proofs.ShapeTypes.{none, and_left, and_right, type_at, type_past}

-- ---- a type consists of those with smaller numbers

abbrev pub rank : DataType → ℕ
rank (Simple t) = 0
rank (Structured n) = suc n

abbrev pub most : List Field → ℕ
most [] = 0
most (f ∷ fs) = max (rank f.data_type) (most fs)

rank_below : (n : ℕ) (t : DataType) → is_below n t ≡ true → rank t ≤ n
rank_below n (Simple t) h = omega arith
rank_below n (Structured k) h = let below : k < n = ltb-true k n h in omega (arith, below)

most_below : (n : ℕ) (fs : List Field) → all_below n fs ≡ true → most fs ≤ n
most_below n [] h = omega arith
most_below n (f ∷ fs) h =
    let first = rank_below n f.data_type (and_left (is_below n f.data_type) (all_below n fs) h) in
    let rest = most_below n fs (and_right (is_below n f.data_type) (all_below n fs) h) in
    omega (arith, first, rest)

pub rank_at : (fs : List Field) (i : ℕ) (f : Field) → i < length fs → f ≡ get_or fs i f → rank f.data_type ≤ most fs
rank_at [] i f here found = absurd (omega (arith, here))
rank_at (g ∷ fs) zero f here found = let same = ap (λ (x : Field). rank x.data_type) found in omega (arith, same)
rank_at (g ∷ fs) (suc i) f here found = let rest = rank_at fs i f (omega (arith, here)) found in omega (arith, rest)

past : (es : List Shape) (n : ℕ) → None ≡ slice_get es n → length es ≤ n
past [] n h = omega arith
past (e ∷ es) zero h = absurd cc
past (e ∷ es) (suc n) h = let rest = past es n h in omega (arith, rest)

module _ (es : List Shape) (table : AreShapes es) (t : DataType) (n : ℕ) (is : t ≡ Structured n) where
  pub no_type : None ≡ slice_get es n → type_in es t ≡ none
  no_type h = ap (type_in es) is ∙ type_past es n (past es n h)

  module _ (e : Shape) (at : Some e ≡ slice_get es n) where
    module _ (size : ℕ) (element : DataType) (shape : e.parts ≡ Elements size element) where
      pub element_falls : rank element < rank t
      element_falls =
          let within = (table.shape n e (sym at)).within in
          let below = rank_below n element (sym (ap (is_within n) shape) ∙ within) in
          let here : rank t ≡ suc n = ap rank is in
          omega (arith, below, here)

      pub array_type : type_in es t ≡ Program.Array e.place size (type_in es element)
      array_type = ap (type_in es) is ∙ type_at es table n e (sym at) ∙ ap (parts_by (types_of es) e.place) shape

    module _ (fields : Vec Field _) (shape : e.parts ≡ Fields fields) where
      pub fields_fall : most fields.items < rank t
      fields_fall =
          let within = (table.shape n e (sym at)).within in
          let below = most_below n fields.items (sym (ap (is_within n) shape) ∙ within) in
          let here : rank t ≡ suc n = ap rank is in
          omega (arith, below, here)

      pub record_type : type_in es t ≡ Program.Record e.place (fields_by (types_of es) fields.items)
      record_type = ap (type_in es) is ∙ type_at es table n e (sym at) ∙ ap (parts_by (types_of es) e.place) shape

-- ---- going on with what was read

pub as_bind : {A B : Type 0} → (f : A → B) (o : Option A) → option_map f o ≡ (o >>= (λ a. Some (f a)))
as_bind f None = refl
as_bind f (Some a) = refl

abbrev pub before : List Value → Values.Values → Values.Values
before [] rest = rest
before (v ∷ vs) rest = Values.part (value_in v) (before vs rest)

-- the values so far before what is read yet
abbrev pub prefixed : List Value → Option (Values.Values × List ℤ) → Option (Values.Values × List ℤ)
prefixed vs o = option_map (λ r. (before vs r.0, r.1)) o

pub before_all : (vs : List Value) → before vs Values.no_part ≡ values_in vs
before_all [] = refl
before_all (v ∷ vs) = ap (Values.part (value_in v)) (before_all vs)

before_more : (vs : List Value) (v : Value) (rest : Values.Values) → before (vs ++ v ∷ []) rest ≡ before vs (Values.part (value_in v) rest)
before_more [] v rest = refl
before_more (u ∷ vs) v rest = ap (Values.part (value_in u)) (before_more vs v rest)

pub prefixed_none : (o : Option (Values.Values × List ℤ)) → prefixed [] o ≡ o
prefixed_none None = refl
prefixed_none (Some r) = refl

-- one value more
prefixed_more : (vs : List Value) (v : Value) (o : Option (Values.Values × List ℤ)) →
    prefixed (vs ++ v ∷ []) o ≡ prefixed vs (o >>= (λ rest. Some (Values.part (value_in v) rest.0, rest.1)))
prefixed_more vs v None = refl
prefixed_more vs v (Some r) = ap (λ x. Some (x, r.1)) (before_more vs v r.0)

module _ (words : List ℤ) where
  module _ (read : List ℤ → Option (Values.Value × List ℤ)) (vs : List Value) (n at : ℕ) (total : Option (Values.Values × List ℤ))
      (so_far : prefixed vs (Words.parts_in read n (drop at words)) ≡ total) where
    pub parts_end : n ≡ 0 → Some (values_in vs, drop at words) ≡ total
    parts_end is =
        ap (λ x. Some (x, drop at words)) (sym (before_all vs)) ∙ ap (λ k. prefixed vs (Words.parts_in read k (drop at words))) (sym is) ∙ so_far

    module _ (left : ℕ) (is : n ≡ suc left) where
      pub parts_stop : None ≡ read (drop at words) → None ≡ total
      parts_stop h =
          ap (λ o. prefixed vs (o >>= (λ first. Words.parts_in read left first.1 >>= (λ rest. Some (Values.part first.0 rest.0, rest.1))))) h
          ∙ ap (λ k. prefixed vs (Words.parts_in read k (drop at words))) (sym is) ∙ so_far

      pub parts_more : (v : Value) (behind : ℕ) → Some (value_in v, drop behind words) ≡ read (drop at words) →
          prefixed (vs ++ v ∷ []) (Words.parts_in read left (drop behind words)) ≡ total
      parts_more v behind h =
          prefixed_more vs v (Words.parts_in read left (drop behind words))
          ∙ ap (λ o. prefixed vs (o >>= (λ first. Words.parts_in read left first.1 >>= (λ rest. Some (Values.part first.0 rest.0, rest.1))))) h
          ∙ ap (λ k. prefixed vs (Words.parts_in read k (drop at words))) (sym is) ∙ so_far

  -- the same of fields
  module _ (ts : List Program.DataType) (vs : List Value) (fs : List Field) (i at : ℕ) (total : Option (Values.Values × List ℤ))
      (so_far : prefixed vs (Words.fields_in (fields_by ts (drop i fs)) (drop at words)) ≡ total) (f : Field) (here : i < length fs) (found : f ≡ get_or fs i f) where
    left_fields : drop i fs ≡ f ∷ drop (i + 1) fs
    left_fields = drop_more fs i f here ∙ ap (λ x. x ∷ drop (i + 1) fs) (sym found)

    pub fields_stop : None ≡ Words.value_in (type_by ts f.data_type) (drop at words) → None ≡ total
    fields_stop h =
        ap (λ o. prefixed vs (o >>= (λ first. Words.fields_in (fields_by ts (drop (i + 1) fs)) first.1 >>= (λ rest. Some (Values.part first.0 rest.0, rest.1))))) h
        ∙ ap (λ gs. prefixed vs (Words.fields_in (fields_by ts gs) (drop at words))) (sym left_fields) ∙ so_far

    pub fields_more : (v : Value) (behind : ℕ) → Some (value_in v, drop behind words) ≡ Words.value_in (type_by ts f.data_type) (drop at words) →
        prefixed (vs ++ v ∷ []) (Words.fields_in (fields_by ts (drop (i + 1) fs)) (drop behind words)) ≡ total
    fields_more v behind h =
        prefixed_more vs v (Words.fields_in (fields_by ts (drop (i + 1) fs)) (drop behind words))
        ∙ ap (λ o. prefixed vs (o >>= (λ first. Words.fields_in (fields_by ts (drop (i + 1) fs)) first.1 >>= (λ rest. Some (Values.part first.0 rest.0, rest.1))))) h
        ∙ ap (λ gs. prefixed vs (Words.fields_in (fields_by ts gs) (drop at words))) (sym left_fields) ∙ so_far

pub drop_end : {X : Type 0} → (xs : List X) (i : ℕ) → length xs ≤ i → drop i xs ≡ []
drop_end [] zero h = refl
drop_end [] (suc i) h = refl
drop_end (x ∷ xs) zero h = absurd (omega (arith, h))
drop_end (x ∷ xs) (suc i) h = drop_end xs i (omega (arith, h))

-- all fields are read
pub fields_end : (words : List ℤ) (ts : List Program.DataType) (vs : List Value) (fs : List Field) (i at : ℕ) (total : Option (Values.Values × List ℤ)) →
    length fs ≤ i → prefixed vs (Words.fields_in (fields_by ts (drop i fs)) (drop at words)) ≡ total → Some (values_in vs, drop at words) ≡ total
fields_end words ts vs fs i at total h so_far =
    ap (λ x. Some (x, drop at words)) (sym (before_all vs))
    ∙ ap (λ gs. prefixed vs (Words.fields_in (fields_by ts gs) (drop at words))) (sym (drop_end fs i h)) ∙ so_far

-- words that are left are of no state
pub words_left : (words : List ℤ) (at : ℕ) → at < length words → None ≡ Words.decoded [] (drop at words)
words_left words at h = sym (ap (Words.decoded []) (drop_more words at (pos 0) h))

-- a value, and the words behind it
abbrev before_words : List ℤ → ℕ → Values.Value → Option (Values.Value × List ℤ)
before_words words behind v = Some (v, drop behind words)

pub whole_is : (parts : Vec Value Global) (behind : ℕ) (words : List ℤ) (read : Option (Vec Value Global × ℕ)) → read ≡ Some (parts, behind) →
    before_words words behind (value_in (Variants.Parts parts)) ≡ whole_of (parts_read words read)
whole_is parts behind words read was = ap (before_words words behind) (value_in-parts parts) ∙ sym (ap (λ o. whole_of (parts_read words o)) was)
