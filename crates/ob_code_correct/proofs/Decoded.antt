-- States that are read from words are those that the words are of.
use Rattle.std.proofs.Common.{inl, inr, ◌≡◌, ℕ, zero, suc, ℤ, pos, negsuc, neg_ℤ, ◌≤ℤ◌, true, false, ◌&&◌, List, [], ◌∷◌, ◌++◌, Option, Some, None, refl, sym, ap, subst, ◌∙◌, append_assoc, arith}
use Rattle.std.specs.Prelude.{◌⊎◌, int_le, if◌then◌else◌}
use Rattle.std.proofs.Common.{Bool as Truth}
use Rattle.std.specs.Ordering.{int_eq}
use Rattle.std.proofs.lemmas.Int.{ints}
use Rattle.std.proofs.lemmas.Bool.Decides.{Decides-int_eq}
use Rattle.ob_interface.specs.declared.scalar.Scalar.{Scalar}
use Rattle.ob_interface.specs.declared.scalar.Scalar.TheVariants.{Int, Bool}
use Rattle.ob_interface.specs.declared.scalar.ScalarType.{ScalarType}
use Rattle.ob_interface.specs.declared.scalar.ScalarType.TheVariants.{Integer, Boolean}
use Rattle.ob_typing.specs.Program.{DataType, Simple, Array, Record, Fields, no_field, field, Variable}
use Rattle.ob_meaning.specs.ByPositionValue.{Value, Single, Parts, Values, no_part, part}
use Rattle.ob_meaning.specs.ByPositionStore.{Holds, Refers, Activation}
use Rattle.ob_code_scheme.specs.Types.{IsScalarOf, AreAll, IsValueOf, AreFields, IsStateOf}
use Rattle.ob_code_scheme.specs.Layout.{word, flat, flat_all, encoded, ◌>>=◌, scalar_in, parts_in, single_in, value_in, fields_in, decoded, IsEncoding}

-- ---- tests

abbrev low : ℤ → Truth
low z = int_le (negsuc 2147483647) z

abbrev high : ℤ → Truth
high z = int_le z (pos 2147483647)

low_is : (z : ℤ) → neg_ℤ (pos 2147483648) ≤ℤ z → low z ≡ true
low_is z h = grind (arith, ints)

high_is : (z : ℤ) → z ≤ℤ pos 2147483647 → high z ≡ true
high_is z h = grind (arith, ints)

low_fact : (z : ℤ) → low z ≡ true → neg_ℤ (pos 2147483648) ≤ℤ z
low_fact z h = grind (arith, ints)

high_fact : (z : ℤ) → high z ≡ true → z ≤ℤ pos 2147483647
high_fact z h = grind (arith, ints)

-- what a test chose
chosen : {A : Type 0} (t : Truth) (x y : A) → (if t then Some x else None) ≡ Some y → (t ≡ true) × (x ≡ y)
chosen true x y h = (refl, cc)
chosen false x y h = absurd (cc)

both : (a b : Truth) → (a && b) ≡ true → (a ≡ true) × (b ≡ true)
both true true h = (refl, refl)
both true false h = absurd (cc)
both false b h = absurd (cc)

-- a first test, and a second one where it fails
chosen_of_two : {A : Type 0} (t u : Truth) (x y z : A) → (if t then Some x else if u then Some y else None) ≡ Some z → ((t ≡ true) × (x ≡ z)) ⊎ ((u ≡ true) × (y ≡ z))
chosen_of_two true u x y z h = inl (refl, cc)
chosen_of_two false u x y z h = inr (chosen u y z h)

-- ---- what was read first, and what went on from there

record Went {A B : Type 0} (o : Option A) (go : A → Option B) (b : B) : Type 0 where
  first : A
  read : o ≡ Some first
  goes : go first ≡ Some b

went : {A B : Type 0} (o : Option A) (go : A → Option B) (b : B) → (o >>= go) ≡ Some b → Went o go b
went None go b h = absurd (cc)
went (Some a) go b h = record { first = a; read = refl; goes = h }

same_pair : {A B : Type 0} (a c : A) (b d : B) → ◌≡◌ {A = Option (A × B)} (Some (a, b)) (Some (c, d)) → (a ≡ c) × (b ≡ d)
same_pair {A} {B} a c b d h =
    (ap (λ (o : Option (A × B)). (read_or (a, b) o).0) h, ap (λ (o : Option (A × B)). (read_or (a, b) o).1) h)
  where
    read_or : (A × B) → Option (A × B) → A × B
    read_or p None = p
    read_or p (Some q) = q

-- ---- scalars

pub scalar_back : (type : ScalarType) (s : Scalar) → IsScalarOf type s → scalar_in type (word s) ≡ Some s
scalar_back Integer (Int z) h =
    ap (λ (b : Truth). if b && high z then Some (Int z) else None) (low_is z h.low)
    ∙ ap (λ (b : Truth). if b then Some (Int z) else None) (high_is z h.high)
scalar_back Integer (Bool b) h = absurd h
scalar_back Boolean (Int z) h = absurd h
scalar_back Boolean (Bool true) h = refl
scalar_back Boolean (Bool false) h = refl

-- a scalar that a word is of
record IsWordOf (type : ScalarType) (z : ℤ) (s : Scalar) : Type 0 where
  typed : IsScalarOf type s
  word_is : z ≡ word s

scalar_read : (type : ScalarType) (z : ℤ) (s : Scalar) → scalar_in type z ≡ Some s → IsWordOf type z s
scalar_read Integer z s h =
    let c = chosen (low z && high z) (Int z) s h in
    let t = both (low z) (high z) c.0 in
    subst (IsWordOf Integer z) c.1 (record { typed = record { low = low_fact z t.0; high = high_fact z t.1 }; word_is = refl })
scalar_read Boolean z s h = elim (chosen_of_two (int_eq z (pos 0)) (int_eq z (pos 1)) (Bool false) (Bool true) s h) [
  | inl c ↦ subst (IsWordOf Boolean z) c.1 (record { typed = tt; word_is = (Decides-int_eq z (pos 0)).0 c.0 })
  | inr c ↦ subst (IsWordOf Boolean z) c.1 (record { typed = tt; word_is = (Decides-int_eq z (pos 1)).0 c.0 })
]

-- ---- values

-- the value that words begin with
record Begins (Is : Value → Type 0) (words : List ℤ) (v : Value) (rest : List ℤ) : Type 0 where
  typed : Is v
  words_are : words ≡ flat v ++ rest

-- the parts that words begin with
record Begin (Are : Values → Type 0) (words : List ℤ) (vs : Values) (rest : List ℤ) : Type 0 where
  typed : Are vs
  words_are : words ≡ flat_all vs ++ rest

-- one part, and the others
joined : (Is : Value → Type 0) (Are All : Values → Type 0) (words : List ℤ) (v : Value) (middle : List ℤ) (vs : Values) (rest : List ℤ) → (Is v → Are vs → All (part v vs)) →
    Begins Is words v middle → Begin Are middle vs rest → Begin All words (part v vs) rest
joined Is Are All words v middle vs rest all h g = record {
  typed = all h.typed g.typed;
  words_are = h.words_are ∙ ap (λ (ws : List ℤ). flat v ++ ws) g.words_are ∙ sym (append_assoc (flat v) (flat_all vs) rest);
}

parts_read : (Is : Value → Type 0) (read : List ℤ → Option (Value × List ℤ)) →
    ((words : List ℤ) (v : Value) (rest : List ℤ) → read words ≡ Some (v, rest) → Begins Is words v rest) →
    (n : ℕ) (words : List ℤ) (vs : Values) (rest : List ℤ) → parts_in read n words ≡ Some (vs, rest) → Begin (AreAll Is n) words vs rest
parts_read Is read each zero words vs rest h =
    let same = same_pair no_part vs words rest h in
    subst (λ (us : Values). Begin (AreAll Is zero) words us rest) same.0 (record { typed = tt; words_are = same.1 })
parts_read Is read each (suc n) words vs rest h =
    let a = went (read words) (λ first. parts_in read n first.1 >>= (λ others. Some (part first.0 others.0, others.1))) (vs, rest) h in
    let b = went (parts_in read n a.first.1) (λ others. Some (part a.first.0 others.0, others.1)) (vs, rest) a.goes in
    let same = same_pair (part a.first.0 b.first.0) vs b.first.1 rest b.goes in
    let here = each words a.first.0 a.first.1 a.read in
    let others = parts_read Is read each n a.first.1 b.first.0 b.first.1 b.read in
    subst (λ (us : Values). Begin (AreAll Is (suc n)) words us rest) same.0
    (subst (λ (r : List ℤ). Begin (AreAll Is (suc n)) words (part a.first.0 b.first.0) r) same.1
    (joined Is (AreAll Is n) (AreAll Is (suc n)) words a.first.0 a.first.1 b.first.0 b.first.1 (λ p q. (p, q)) here others))

single_read : (type : ScalarType) (words : List ℤ) (v : Value) (rest : List ℤ) → single_in type words ≡ Some (v, rest) → Begins (IsValueOf (Simple type)) words v rest
single_read type [] v rest h = absurd (cc)
single_read type (w ∷ words) v rest h =
    let a = went (scalar_in type w) (λ s. Some (Single s, words)) (v, rest) h in
    let same = same_pair (Single a.first) v words rest a.goes in
    let is = scalar_read type w a.first a.read in
    subst (λ (u : Value). Begins (IsValueOf (Simple type)) (w ∷ words) u rest) same.0
    (record { typed = is.typed; words_are = ap (λ (z : ℤ). z ∷ words) is.word_is ∙ ap (λ (r : List ℤ). word a.first ∷ r) same.1 })

-- parts are a value
of_parts : (Are : Values → Type 0) (type : DataType) → ((us : Values) → Are us → IsValueOf type (Parts us)) → (words : List ℤ) (vs : Values) (middle : List ℤ) (v : Value) (rest : List ℤ) → Begin Are words vs middle →
    ◌≡◌ {A = Option (Value × List ℤ)} (Some (Parts vs, middle)) (Some (v, rest)) → Begins (IsValueOf type) words v rest
of_parts Are type is words vs middle v rest b h =
    let same = same_pair (Parts vs) v middle rest h in
    subst (λ (u : Value). Begins (IsValueOf type) words u rest) same.0
    (subst (λ (r : List ℤ). Begins (IsValueOf type) words (Parts vs) r) same.1 (record { typed = is vs b.typed; words_are = b.words_are }))

mutual
  value_read : (type : DataType) (words : List ℤ) (v : Value) (rest : List ℤ) → value_in type words ≡ Some (v, rest) → Begins (IsValueOf type) words v rest
  value_read (Simple type) words v rest h = single_read type words v rest h
  value_read (Array place n element) words v rest h =
      let a = went (parts_in (λ ws. value_in element ws) n words) (λ read. Some (Parts read.0, read.1)) (v, rest) h in
      let parts = parts_read (λ u. IsValueOf element u) (λ ws. value_in element ws) (λ words v rest h. value_read element words v rest h) n words a.first.0 a.first.1 a.read in
      of_parts (AreAll (λ u. IsValueOf element u) n) (Array place n element) (λ us are. are) words a.first.0 a.first.1 v rest parts a.goes
  value_read (Record place fields) words v rest h =
      let a = went (fields_in fields words) (λ read. Some (Parts read.0, read.1)) (v, rest) h in
      of_parts (AreFields fields) (Record place fields) (λ us are. are) words a.first.0 a.first.1 v rest (fields_read fields words a.first.0 a.first.1 a.read) a.goes

  fields_read : (fields : Fields) (words : List ℤ) (vs : Values) (rest : List ℤ) → fields_in fields words ≡ Some (vs, rest) → Begin (AreFields fields) words vs rest
  fields_read no_field words vs rest h =
      let same = same_pair no_part vs words rest h in
      subst (λ (us : Values). Begin (AreFields no_field) words us rest) same.0 (record { typed = tt; words_are = same.1 })
  fields_read (field name type more) words vs rest h =
      let a = went (value_in type words) (λ first. fields_in more first.1 >>= (λ others. Some (part first.0 others.0, others.1))) (vs, rest) h in
      let b = went (fields_in more a.first.1) (λ others. Some (part a.first.0 others.0, others.1)) (vs, rest) a.goes in
      let same = same_pair (part a.first.0 b.first.0) vs b.first.1 rest b.goes in
      let here = value_read type words a.first.0 a.first.1 a.read in
      let others = fields_read more a.first.1 b.first.0 b.first.1 b.read in
      subst (λ (us : Values). Begin (AreFields (field name type more)) words us rest) same.0
      (subst (λ (r : List ℤ). Begin (AreFields (field name type more)) words (part a.first.0 b.first.0) r) same.1
      (joined (IsValueOf type) (AreFields more) (AreFields (field name type more)) words a.first.0 a.first.1 b.first.0 b.first.1 (λ p q. (p, q)) here others))

parts_back : (Is : Value → Type 0) (read : List ℤ → Option (Value × List ℤ)) →
    ((v : Value) (rest : List ℤ) → Is v → read (flat v ++ rest) ≡ Some (v, rest)) →
    (n : ℕ) (vs : Values) (rest : List ℤ) → AreAll Is n vs → parts_in read n (flat_all vs ++ rest) ≡ Some (vs, rest)
parts_back Is read each zero no_part rest h = refl
parts_back Is read each zero (part v vs) rest h = absurd h
parts_back Is read each (suc n) no_part rest h = absurd h
parts_back Is read each (suc n) (part v vs) rest h =
    ap (parts_in read (suc n)) (append_assoc (flat v) (flat_all vs) rest)
    ∙ ap (λ (o : Option (Value × List ℤ)). o >>= (λ first. parts_in read n first.1 >>= (λ others. Some (part first.0 others.0, others.1)))) (each v (flat_all vs ++ rest) h.0)
    ∙ ap (λ (o : Option (Values × List ℤ)). o >>= (λ others. Some (part v others.0, others.1))) (parts_back Is read each n vs rest h.1)

mutual
  pub value_back : (type : DataType) (v : Value) (rest : List ℤ) → IsValueOf type v → value_in type (flat v ++ rest) ≡ Some (v, rest)
  value_back (Simple type) (Single s) rest h = ap (λ (o : Option Scalar). o >>= (λ s. Some (Single s, rest))) (scalar_back type s h)
  value_back (Simple type) (Parts vs) rest h = absurd h
  value_back (Array place n element) (Single s) rest h = absurd h
  value_back (Array place n element) (Parts vs) rest h =
      ap (λ (o : Option (Values × List ℤ)). o >>= (λ read. Some (Parts read.0, read.1)))
      (parts_back (λ u. IsValueOf element u) (λ ws. value_in element ws) (λ v rest h. value_back element v rest h) n vs rest h)
  value_back (Record place fields) (Single s) rest h = absurd h
  value_back (Record place fields) (Parts vs) rest h =
      ap (λ (o : Option (Values × List ℤ)). o >>= (λ read. Some (Parts read.0, read.1))) (fields_back fields vs rest h)

  fields_back : (fields : Fields) (vs : Values) (rest : List ℤ) → AreFields fields vs → fields_in fields (flat_all vs ++ rest) ≡ Some (vs, rest)
  fields_back no_field no_part rest h = refl
  fields_back no_field (part v vs) rest h = absurd h
  fields_back (field name type more) no_part rest h = absurd h
  fields_back (field name type more) (part v vs) rest h =
      ap (fields_in (field name type more)) (append_assoc (flat v) (flat_all vs) rest)
      ∙ ap (λ (o : Option (Value × List ℤ)). o >>= (λ first. fields_in more first.1 >>= (λ others. Some (part first.0 others.0, others.1)))) (value_back type v (flat_all vs ++ rest) h.0)
      ∙ ap (λ (o : Option (Values × List ℤ)). o >>= (λ others. Some (part v others.0, others.1))) (fields_back more vs rest h.1)

-- ---- states

pub decoded_is : (variables : List Variable) (words : List ℤ) (state : Activation) → decoded variables words ≡ Some state → IsEncoding variables state words
decoded_is [] [] [] h = record { typed = tt; words_are = refl }
decoded_is [] [] (x ∷ state) h = absurd (cc)
decoded_is [] (w ∷ words) state h = absurd (cc)
decoded_is (v ∷ variables) words state h =
    let a = went (value_in v.type words) (λ read. decoded variables read.1 >>= (λ state. Some (Holds read.0 ∷ state))) state h in
    let b = went (decoded variables a.first.1) (λ state. Some (Holds a.first.0 ∷ state)) state a.goes in
    let here = value_read v.type words a.first.0 a.first.1 a.read in
    let others = decoded_is variables a.first.1 b.first b.read in
    let same : Holds a.first.0 ∷ b.first ≡ state = some_is (Holds a.first.0 ∷ b.first) state b.goes in
    subst (λ (s : Activation). IsEncoding (v ∷ variables) s words) same
    (record { typed = (here.typed, others.typed); words_are = here.words_are ∙ ap (λ (ws : List ℤ). flat a.first.0 ++ ws) others.words_are })
  where
    some_is : (s t : Activation) → ◌≡◌ {A = Option Activation} (Some s) (Some t) → s ≡ t
    some_is s t h = cc

pub decoded_back : (variables : List Variable) (state : Activation) → IsStateOf variables state → decoded variables (encoded state) ≡ Some state
decoded_back [] [] h = refl
decoded_back [] (x ∷ state) h = absurd h
decoded_back (v ∷ variables) [] h = absurd h
decoded_back (v ∷ variables) (Refers place ∷ state) h = absurd h.0
decoded_back (v ∷ variables) (Holds u ∷ state) h =
    ap (λ (o : Option (Value × List ℤ)). o >>= (λ read. decoded variables read.1 >>= (λ state. Some (Holds read.0 ∷ state)))) (value_back v.type u (encoded state) h.0)
    ∙ ap (λ (o : Option Activation). o >>= (λ state. Some (Holds u ∷ state))) (decoded_back variables state h.1)

pub decode_back : (variables : List Variable) (words : List ℤ) (state : Activation) → IsEncoding variables state words → decoded variables words ≡ Some state
decode_back variables words state h = ap (decoded variables) h.words_are ∙ decoded_back variables state h.typed
