-- The words of a part of a value among those of the whole: what is read there, and what another part there changes.
use Rattle.std.proofs.Common.{◌≡◌, ℕ, zero, suc, ◌+◌, ◌*◌, ◌<◌, ℤ, List, [], ◌∷◌, ◌++◌, length, refl, sym, ap, ◌∙◌, subst, append_assoc, append-nil, length-append, arith}
use Rattle.ob_typing.specs.Program.{DataType, Simple, Array, Record, Fields, no_field, field}
use Rattle.ob_meaning.specs.ByPositionValue.{Value, Single, Parts, Values, no_part, part, part_at, selected, with_part, replaced}
use Rattle.ob_code_scheme.specs.Types.{words, words_of_fields, offset, field_type, part_type, part_offset, inner, AreAll, IsValueOf, AreFields, HasField, IsPath}
use Rattle.ob_code_scheme.specs.Layout.{flat, flat_all}

-- ---- lengths

-- so many parts of a kind, each of so many words
length-all : (Is : Value → Type 0) (size : ℕ) → ((v : Value) → Is v → length (flat v) ≡ size) → (n : ℕ) (vs : Values) → AreAll Is n vs → length (flat_all vs) ≡ n * size
length-all Is size each zero no_part h = omega arith
length-all Is size each zero (part v vs) h = absurd h
length-all Is size each (suc n) no_part h = absurd h
length-all Is size each (suc n) (part v vs) h =
    let here = each v h.0 in
    let rest = length-all Is size each n vs h.1 in
    omega (arith, length-append (flat v) (flat_all vs), here, rest)

mutual
  -- a value takes the words of its type
  pub length-flat : (type : DataType) (v : Value) → IsValueOf type v → length (flat v) ≡ words type
  length-flat (Simple type) (Single s) h = refl
  length-flat (Simple type) (Parts vs) h = absurd h
  length-flat (Array place n element) (Single s) h = absurd h
  length-flat (Array place n element) (Parts vs) h = length-all (λ v. IsValueOf element v) (words element) (λ v. length-flat element v) n vs h
  length-flat (Record place fields) (Single s) h = absurd h
  length-flat (Record place fields) (Parts vs) h = length-fields fields vs h

  length-fields : (fields : Fields) (vs : Values) → AreFields fields vs → length (flat_all vs) ≡ words_of_fields fields
  length-fields no_field no_part h = refl
  length-fields no_field (part v vs) h = absurd h
  length-fields (field name type rest) no_part h = absurd h
  length-fields (field name type rest) (part v vs) h =
      length-append (flat v) (flat_all vs)
      ∙ ap (λ (m : ℕ). m + length (flat_all vs)) (length-flat type v h.0)
      ∙ ap (λ (m : ℕ). words type + m) (length-fields rest vs h.1)

-- ---- one part

-- among parts, the words of the one at a position, with those before and behind it, and what another part there changes
record OfPart (Are : Values → Type 0) (Is : Value → Type 0) (vs : Values) (i before : ℕ) : Type 0 where
  typed : Is (part_at vs i)
  front : List ℤ
  back : List ℤ
  count : length front ≡ before
  words_are : flat_all vs ≡ front ++ (flat (part_at vs i) ++ back)
  changed : (w : Value) → flat_all (with_part vs i w) ≡ front ++ (flat w ++ back)
  kept : (w : Value) → Is w → Are (with_part vs i w)

element : (Is : Value → Type 0) (size : ℕ) → ((v : Value) → Is v → length (flat v) ≡ size) → (n : ℕ) (vs : Values) (i : ℕ) → AreAll Is n vs → i < n → OfPart (AreAll Is n) Is vs i (i * size)
element Is size each zero vs i h below = absurd (omega (arith, below))
element Is size each (suc n) no_part i h below = absurd h
element Is size each (suc n) (part v vs) zero h below = record {
  typed = h.0;
  front = [];
  back = flat_all vs;
  count = omega arith;
  words_are = refl;
  changed = λ w. refl;
  kept = λ w typed. (typed, h.1);
}
element Is size each (suc n) (part v vs) (suc i) h below =
    let rest = element Is size each n vs i h.1 (omega (arith, below)) in
    let here : length (flat v) ≡ size = each v h.0 in
    record {
      typed = rest.typed;
      front = flat v ++ rest.front;
      back = rest.back;
      count = omega (arith, length-append (flat v) rest.front, here, rest.count);
      words_are = ap (λ (ws : List ℤ). flat v ++ ws) rest.words_are ∙ sym (append_assoc (flat v) rest.front (flat (part_at vs i) ++ rest.back));
      changed = λ w. ap (λ (ws : List ℤ). flat v ++ ws) (rest.changed w) ∙ sym (append_assoc (flat v) rest.front (flat w ++ rest.back));
      kept = λ w typed. (h.0, rest.kept w typed);
    }

of_field : (fields : Fields) (vs : Values) (i : ℕ) → AreFields fields vs → HasField fields i → OfPart (AreFields fields) (IsValueOf (field_type fields i)) vs i (offset fields i)
of_field no_field vs i h has = absurd has
of_field (field name type rest) no_part i h has = absurd h
of_field (field name type rest) (part v vs) zero h has = record {
  typed = h.0;
  front = [];
  back = flat_all vs;
  count = refl;
  words_are = refl;
  changed = λ w. refl;
  kept = λ w typed. (typed, h.1);
}
of_field (field name type rest) (part v vs) (suc i) h has =
    let others = of_field rest vs i h.1 has in
    record {
      typed = others.typed;
      front = flat v ++ others.front;
      back = others.back;
      count = length-append (flat v) others.front
          ∙ ap (λ (m : ℕ). m + length others.front) (length-flat type v h.0)
          ∙ ap (λ (m : ℕ). words type + m) others.count;
      words_are = ap (λ (ws : List ℤ). flat v ++ ws) others.words_are ∙ sym (append_assoc (flat v) others.front (flat (part_at vs i) ++ others.back));
      changed = λ w. ap (λ (ws : List ℤ). flat v ++ ws) (others.changed w) ∙ sym (append_assoc (flat v) others.front (flat w ++ others.back));
      kept = λ w typed. (h.0, others.kept w typed);
    }

-- ---- a part behind a path

-- the words of the part behind a path, with those before and behind it, and what another part there changes
pub record Within (from : DataType) (v : Value) (path : List ℕ) (to : DataType) : Type 0 where
  pub typed : IsValueOf to (selected v path)
  pub front : List ℤ
  pub back : List ℤ
  pub count : length front ≡ inner from path
  pub words_are : flat v ≡ front ++ (flat (selected v path) ++ back)
  pub changed : (w : Value) → flat (replaced v path w) ≡ front ++ (flat w ++ back)
  pub kept : (w : Value) → IsValueOf to w → IsValueOf from (replaced v path w)

whole : (from to : DataType) (v : Value) → IsValueOf from v → from ≡ to → Within from v [] to
whole from to v h same = record {
  typed = subst (λ (type : DataType). IsValueOf type v) same h;
  front = [];
  back = [];
  count = refl;
  words_are = sym (append-nil (flat v));
  changed = λ w. sym (append-nil (flat w));
  kept = λ w typed. subst (λ (type : DataType). IsValueOf type w) (sym same) typed;
}

-- of the part at a position, and further in
further : (from : DataType) (vs : Values) (i : ℕ) (path : List ℕ) (to : DataType) →
    OfPart (λ us. IsValueOf from (Parts us)) (IsValueOf (part_type from i)) vs i (part_offset from i) → Within (part_type from i) (part_at vs i) path to → Within from (Parts vs) (i ∷ path) to
further from vs i path to p u =
    record {
      typed = u.typed;
      front = p.front ++ u.front;
      back = u.back ++ p.back;
      count = length-append p.front u.front
          ∙ ap (λ (m : ℕ). m + length u.front) p.count
          ∙ ap (λ (m : ℕ). part_offset from i + m) u.count;
      words_are = p.words_are
          ∙ ap (λ (ws : List ℤ). p.front ++ (ws ++ p.back)) u.words_are
          ∙ regroup p.front u.front (flat (selected (part_at vs i) path)) u.back p.back;
      changed = λ w. p.changed (replaced (part_at vs i) path w)
          ∙ ap (λ (ws : List ℤ). p.front ++ (ws ++ p.back)) (u.changed w)
          ∙ regroup p.front u.front (flat w) u.back p.back;
      kept = λ w typed. p.kept (replaced (part_at vs i) path w) (u.kept w typed);
    }
  where
    regroup : (a b c d e : List ℤ) → a ++ ((b ++ (c ++ d)) ++ e) ≡ (a ++ b) ++ (c ++ (d ++ e))
    regroup a b c d e =
        ap (λ (ws : List ℤ). a ++ ws) (append_assoc b (c ++ d) e ∙ ap (λ (ws : List ℤ). b ++ ws) (append_assoc c d e))
        ∙ sym (append_assoc a b (c ++ (d ++ e)))

pub within : (path : List ℕ) (from : DataType) (v : Value) (to : DataType) → IsValueOf from v → IsPath from path to → Within from v path to
within [] from v to h is = whole from to v h is
within (i ∷ path) (Simple type) v to h is = absurd is.0
within (i ∷ path) (Array place n element_type) (Single s) to h is = absurd h
within (i ∷ path) (Array place n element_type) (Parts vs) to h is =
    let p = element (λ v. IsValueOf element_type v) (words element_type) (λ v. length-flat element_type v) n vs i h is.0 in
    further (Array place n element_type) vs i path to p (within path element_type (part_at vs i) to p.typed is.1)
within (i ∷ path) (Record place fields) (Single s) to h is = absurd h
within (i ∷ path) (Record place fields) (Parts vs) to h is =
    let p = of_field fields vs i h is.0 in
    further (Record place fields) vs i path to p (within path (field_type fields i) (part_at vs i) to p.typed is.1)
