-- A text says one value at most, and where values stand one behind the other it is seen where each of them ends.
use Rattle.std.proofs.Common.{◌≡◌, ◌≢◌, ◌∙◌, ℕ, ◌≤◌, not, Bool, true, false, List, [], ◌∷◌, ◌++◌, refl, sym, ap, subst, arith, append_assoc, ℤ}
use Rattle.std.specs.Char.{is_ascii_alphanumeric, is_ascii_digit}
use Rattle.std.specs.List.{list_all}
use Rattle.std.proofs.lemmas.Bool.{and_parts, false≢true}
use Rattle.std.proofs.lemmas.Bool.Decides.{nat_tests}
use Rattle.ob_interface.specs.declared.scalar.Scalar.{Scalar}
use Rattle.ob_interface.specs.declared.scalar.ScalarType.{ScalarType}
use Rattle.ob_interface.specs.declared.scalar.ScalarType.TheVariants.{Integer, Boolean}
use Rattle.ob_meaning.specs.ByNameValue as Values
use Rattle.ob_meaning.specs.ByNameValue.{Value, Single, Elements, Named, NamedValues}
use Rattle.ob_scan.proofs.TokenFacts.{ident_bytes}
use Rattle.ob_text_words.proofs.OneList.{one_list}
use Rattle.ob_text_words.specs.Values as Scalars
use Rattle.ob_text_words.specs.Values.{IsValue}
use Rattle.ob_text_words.specs.ScalarTexts.{truth_text}
use Rattle.ob_text_words.specs.Words.{IsDigits, IsInteger, IsName, Word, positive, negative}
use Rattle.ob_text_values_reading.specs.Taking.{Ends, HasNoMark, at_end, at_mark, is_mark}
use Rattle.ob_text_values_reading.specs.ValueTexts as Texts
use Rattle.ob_text_values_reading.specs.ValueTexts.{AreElementTexts, AreFieldTexts, IsValueText}

-- ---- names and scalars have no mark

no_mark_digit : (b : ℕ) → is_ascii_digit b ≡ true → not (is_mark b) ≡ true
no_mark_digit b h = grind (arith, nat_tests)

no_mark_letter : (b : ℕ) → is_ascii_alphanumeric b ≡ true → not (is_mark b) ≡ true
no_mark_letter b h = grind (arith, nat_tests)

all_same : (p q : ℕ → Bool) → ((b : ℕ) → p b ≡ true → q b ≡ true) → (bytes : List ℕ) → list_all p bytes ≡ true → list_all q bytes ≡ true
all_same p q each [] h = refl
all_same p q each (b ∷ bytes) h =
    let parts = and_parts (p b) (list_all p bytes) h in
    let first = each b parts.0 in
    let rest = all_same p q each bytes parts.1 in
    rw (first, rest) refl

pub digits_unmarked : (bytes : List ℕ) → list_all is_ascii_digit bytes ≡ true → HasNoMark bytes
digits_unmarked bytes h = all_same is_ascii_digit (λ b. not (is_mark b)) no_mark_digit bytes h

pub name_unmarked : (name : List ℕ) → IsName name → HasNoMark name
name_unmarked name h = all_same is_ascii_alphanumeric (λ b. not (is_mark b)) no_mark_letter name (ident_bytes h refl).0

integer_unmarked : (word : Word) (z : ℤ) → IsInteger word z → HasNoMark word
integer_unmarked word z (positive d h) = digits_unmarked word d.digits
integer_unmarked word z (negative {word = digits} d h) = digits_unmarked digits d.digits

truth_unmarked : (b : Bool) → HasNoMark (truth_text b)
truth_unmarked true = refl
truth_unmarked false = refl

pub scalar_unmarked : (type : ScalarType) (word : Word) (s : Scalar) → IsValue type word s → HasNoMark word
scalar_unmarked type word s (Scalars.integer {z = z} h) = integer_unmarked word z h
scalar_unmarked type word s (Scalars.boolean {b = b} e) = subst HasNoMark (sym e) (truth_unmarked b)

-- ---- and begin with no bracket

-- the first byte of a scalar
pub data BeginsScalar : List ℕ → Type 0 where
  begins : {b : ℕ} {rest : List ℕ} → b ≢ 91 → b ≢ 123 → BeginsScalar (b ∷ rest)

begins_digit : (b : ℕ) (rest : List ℕ) → is_ascii_digit b ≡ true → BeginsScalar (b ∷ rest)
begins_digit b rest h = begins (λ e. false≢true (ap is_ascii_digit (sym e) ∙ h)) (λ e. false≢true (ap is_ascii_digit (sym e) ∙ h))

begins_digits : (most : ℕ) (word : Word) (n : ℕ) → IsDigits most word n → BeginsScalar word
begins_digits most [] n d = absurd (omega (arith, d.some))
begins_digits most (b ∷ rest) n d = begins_digit b rest (and_parts (is_ascii_digit b) (list_all is_ascii_digit rest) d.digits).0

integer_begins : (word : Word) (z : ℤ) → IsInteger word z → BeginsScalar word
integer_begins word z (positive {n = n} d h) = begins_digits 10 word n d
integer_begins word z (negative d h) = begins (λ e. absurd (omega (arith, e))) (λ e. absurd (omega (arith, e)))

truth_begins : (b : Bool) → BeginsScalar (truth_text b)
truth_begins true = begins (λ e. absurd (omega (arith, e))) (λ e. absurd (omega (arith, e)))
truth_begins false = begins (λ e. absurd (omega (arith, e))) (λ e. absurd (omega (arith, e)))

pub scalar_begins : (type : ScalarType) (word : Word) (s : Scalar) → IsValue type word s → BeginsScalar word
scalar_begins type word s (Scalars.integer {z = z} h) = integer_begins word z h
scalar_begins type word s (Scalars.boolean {b = b} e) = subst BeginsScalar (sym e) (truth_begins b)

abbrev first_byte : List ℕ → ℕ
first_byte [] = 0
first_byte (b ∷ rest) = b

pub no_array_scalar : (word more rest : List ℕ) → BeginsScalar word → word ++ more ≡ 91 ∷ rest → ⊥
no_array_scalar word more rest (begins {b = b} h k) e = let same : b ≡ 91 = cc in h same

pub no_record_scalar : (word more rest : List ℕ) → BeginsScalar word → word ++ more ≡ 123 ∷ rest → ⊥
no_record_scalar word more rest (begins {b = b} h k) e = let same : b ≡ 123 = cc in k same

-- ---- where a text is parted before its first mark

no_mark_first : (b : ℕ) (word rest : List ℕ) → HasNoMark (b ∷ word) → Ends (b ∷ rest) → ⊥
no_mark_first b word rest h (at_mark m) =
    let parts = and_parts (not (is_mark b)) (list_all (λ c. not (is_mark c)) word) h in
    let e : not true ≡ true = sym (ap not m) ∙ parts.0 in
    false≢true e

ends_same : (a b : List ℕ) → a ≡ b → Ends a → Ends b
ends_same a b e h = rw (← e) h

pub one_parting : (a b r s : List ℕ) → a ++ r ≡ b ++ s → HasNoMark a → HasNoMark b → Ends r → Ends s → (a ≡ b) × (r ≡ s)
one_parting [] [] r s e h k x y = (refl, e)
one_parting [] (c ∷ b) r s e h k x y = absurd (no_mark_first c b (b ++ s) k (ends_same r (c ∷ b ++ s) e x))
one_parting (c ∷ a) [] r s e h k x y = absurd (no_mark_first c a (a ++ r) h (ends_same s (c ∷ a ++ r) (sym e) y))
one_parting (c ∷ a) (d ∷ b) r s e h k x y =
    let first : c ≡ d = cc in
    let rest : a ++ r ≡ b ++ s = cc in
    let p = and_parts (not (is_mark c)) (list_all (λ i. not (is_mark i)) a) h in
    let q = and_parts (not (is_mark d)) (list_all (λ i. not (is_mark i)) b) k in
    let more = one_parting a b r s rest p.1 q.1 x y in
    (rw (first, more.0) refl, more.1)

-- ---- one value

mark_ends : (b : ℕ) (rest : List ℕ) → is_mark b ≡ true → Ends (b ∷ rest)
mark_ends b rest h = at_mark h

low_digit : (b : ℕ) → is_ascii_digit b ≡ true → b ≤ 57
low_digit b h = grind (arith, nat_tests)

low_digits : (word : Word) → list_all is_ascii_digit word ≡ true → first_byte word ≤ 57
low_digits [] h = omega arith
low_digits (b ∷ rest) h = low_digit b (and_parts (is_ascii_digit b) (list_all is_ascii_digit rest) h).0

low_integer : (word : Word) (z : ℤ) → IsInteger word z → first_byte word ≤ 57
low_integer word z (positive d h) = low_digits word d.digits
low_integer word z (negative d h) = omega arith

high_truth : (b : Bool) → 70 ≤ first_byte (truth_text b)
high_truth true = omega arith
high_truth false = omega arith

integer_or_truth : (word : Word) (z : ℤ) (b : Bool) → IsInteger word z → word ≡ truth_text b → ⊥
integer_or_truth word z b h e = omega (arith, low_integer word z h, high_truth b, ap first_byte e)

one_of_type : (type : ScalarType) (word : Word) (a b : Scalar) → IsValue type word a → IsValue type word b → a ≡ b
one_of_type type word a b h k =
    let same : a ∷ [] ≡ b ∷ [] = one_list (type ∷ []) (word ∷ []) (a ∷ []) (b ∷ []) (Scalars.more h Scalars.none) (Scalars.more k Scalars.none) in
    cc

pub one_scalar : (s t : ScalarType) (word : Word) (a b : Scalar) → IsValue s word a → IsValue t word b → a ≡ b
one_scalar Integer Integer word a b h k = one_of_type Integer word a b h k
one_scalar Integer Boolean word a b (Scalars.integer {z = z} h) (Scalars.boolean {b = t} e) = absurd (integer_or_truth word z t h e)
one_scalar Boolean Integer word a b (Scalars.boolean {b = t} e) (Scalars.integer {z = z} h) = absurd (integer_or_truth word z t h e)
one_scalar Boolean Boolean word a b h k = one_of_type Boolean word a b h k

scalar_of_word : (s t : ScalarType) (u v : Word) (a b : Scalar) → u ≡ v → IsValue s u a → IsValue t v b → a ≡ b
scalar_of_word s t u v a b e h k = one_scalar s t v a b (subst (λ (w : Word). IsValue s w a) e h) k

behind_bracket : (mark close : ℕ) (inner rest : List ℕ) → (mark ∷ inner ++ close ∷ []) ++ rest ≡ mark ∷ (inner ++ close ∷ rest)
behind_bracket mark close inner rest = ap (λ t. mark ∷ t) (append_assoc inner (close ∷ []) rest)

differ_first : (a b : ℕ) (x y : List ℕ) → a ∷ x ≡ b ∷ y → a ≡ b
differ_first a b x y e = ap first_byte e

-- a name begins with no brace
no_brace_name : (name more rest : List ℕ) → IsName name → name ++ more ≡ 125 ∷ rest → ⊥
no_brace_name [] more rest n e = absurd (omega (arith, (ident_bytes n refl).1))
no_brace_name (b ∷ name) more rest n e =
    let same : b ≡ 125 = ap first_byte e in
    let p = and_parts (not (is_mark b)) (list_all (λ c. not (is_mark c)) name) (name_unmarked (b ∷ name) n) in
    let none : not (is_mark 125) ≡ true = subst (λ (c : ℕ). not (is_mark c) ≡ true) same p.0 in
    false≢true none

pub field_parts : (name text more : List ℕ) → (name ++ 61 ∷ text) ++ more ≡ name ++ 61 ∷ (text ++ more)
field_parts name text more = append_assoc name (61 ∷ text) more

pub fields_parts : (name text rest more : List ℕ) → (name ++ 61 ∷ (text ++ 44 ∷ rest)) ++ more ≡ name ++ 61 ∷ (text ++ 44 ∷ (rest ++ more))
fields_parts name text rest more = append_assoc name (61 ∷ (text ++ 44 ∷ rest)) more ∙ ap (λ t. name ++ 61 ∷ t) (append_assoc text (44 ∷ rest) more)

pub no_brace_fields : {inner : List ℕ} {fs : NamedValues} (more rest : List ℕ) → AreFieldTexts inner fs → inner ++ more ≡ 125 ∷ rest → ⊥
no_brace_fields more rest (Texts.one_field {name = name} {text = text} n h) e = no_brace_name name (61 ∷ (text ++ more)) rest n (sym (field_parts name text more) ∙ e)
no_brace_fields more rest (Texts.more_fields {name = name} {text = text} {rest = others} n h hs) e =
    no_brace_name name (61 ∷ (text ++ 44 ∷ (others ++ more))) rest n (sym (fields_parts name text others more) ∙ e)

pub one_name : (m n x y : List ℕ) → IsName m → IsName n → m ++ 61 ∷ x ≡ n ++ 61 ∷ y → (m ≡ n) × (x ≡ y)
one_name m n x y h k e =
    let parted = one_parting m n (61 ∷ x) (61 ∷ y) e (name_unmarked m h) (name_unmarked n k) (at_mark refl) (at_mark refl) in
    (parted.0, cc)

mutual
  pub one_value : {a b : List ℕ} {v w : Value} (r s : List ℕ) → IsValueText a v → IsValueText b w → a ++ r ≡ b ++ s → Ends r → Ends s → (v ≡ w) × (r ≡ s)
  one_value r s (Texts.scalar {type = t} {text = a} {s = x} h) (Texts.scalar {type = u} {text = b} {s = y} k) e ends ends' =
      let parted = one_parting a b r s e (scalar_unmarked t a x h) (scalar_unmarked u b y k) ends ends' in
      (ap (λ z. Single z) (scalar_of_word t u a b x y parted.0 h k), parted.1)
  one_value r s (Texts.scalar {type = t} {text = a} {s = x} h) (Texts.array k) e ends ends' = absurd (no_array_scalar a r _ (scalar_begins t a x h) e)
  one_value r s (Texts.scalar {type = t} {text = a} {s = x} h) Texts.no_field e ends ends' = absurd (no_record_scalar a r _ (scalar_begins t a x h) e)
  one_value r s (Texts.scalar {type = t} {text = a} {s = x} h) (Texts.fields k) e ends ends' = absurd (no_record_scalar a r _ (scalar_begins t a x h) e)
  one_value r s (Texts.array h) (Texts.scalar {type = t} {text = a} {s = x} k) e ends ends' = absurd (no_array_scalar a s _ (scalar_begins t a x k) (sym e))
  one_value r s (Texts.array {inner = i} h) (Texts.array {inner = j} k) e ends ends' =
      let whole : 91 ∷ (i ++ 93 ∷ r) ≡ 91 ∷ (j ++ 93 ∷ s) = sym (behind_bracket 91 93 i r) ∙ e ∙ behind_bracket 91 93 j s in
      let one = one_elements r s h k cc in
      (ap (λ z. Elements z) one.0, one.1)
  one_value r s (Texts.array h) Texts.no_field e ends ends' = absurd (omega (arith, ap first_byte e))
  one_value r s (Texts.array h) (Texts.fields k) e ends ends' = absurd (omega (arith, ap first_byte e))
  one_value r s Texts.no_field (Texts.scalar {type = t} {text = a} {s = x} k) e ends ends' = absurd (no_record_scalar a s _ (scalar_begins t a x k) (sym e))
  one_value r s Texts.no_field (Texts.array k) e ends ends' = absurd (omega (arith, ap first_byte e))
  one_value r s Texts.no_field Texts.no_field e ends ends' = (refl, cc)
  one_value r s Texts.no_field (Texts.fields {inner = j} k) e ends ends' =
      let whole : 123 ∷ (125 ∷ r) ≡ 123 ∷ (j ++ 125 ∷ s) = e ∙ behind_bracket 123 125 j s in
      absurd (no_brace_fields (125 ∷ s) r k cc)
  one_value r s (Texts.fields h) (Texts.scalar {type = t} {text = a} {s = x} k) e ends ends' = absurd (no_record_scalar a s _ (scalar_begins t a x k) (sym e))
  one_value r s (Texts.fields h) (Texts.array k) e ends ends' = absurd (omega (arith, ap first_byte e))
  one_value r s (Texts.fields {inner = i} h) Texts.no_field e ends ends' =
      let whole : 123 ∷ (i ++ 125 ∷ r) ≡ 123 ∷ (125 ∷ s) = sym (behind_bracket 123 125 i r) ∙ e in
      absurd (no_brace_fields (125 ∷ r) s h cc)
  one_value r s (Texts.fields {inner = i} h) (Texts.fields {inner = j} k) e ends ends' =
      let whole : 123 ∷ (i ++ 125 ∷ r) ≡ 123 ∷ (j ++ 125 ∷ s) = sym (behind_bracket 123 125 i r) ∙ e ∙ behind_bracket 123 125 j s in
      let one = one_fields r s h k cc in
      (ap (λ z. Named z) one.0, one.1)

  pub one_elements : {a b : List ℕ} {vs ws : Values.Values} (r s : List ℕ) → AreElementTexts a vs → AreElementTexts b ws → a ++ 93 ∷ r ≡ b ++ 93 ∷ s → (vs ≡ ws) × (r ≡ s)
  one_elements r s (Texts.one_element h) (Texts.one_element k) e =
      let one = one_value (93 ∷ r) (93 ∷ s) h k e (at_mark refl) (at_mark refl) in
      (ap (λ v. Values.value v Values.no_value) one.0, cc)
  one_elements r s (Texts.one_element h) (Texts.more_elements {text = b} {rest = c} k ks) e =
      let one = one_value (93 ∷ r) (44 ∷ (c ++ 93 ∷ s)) h k (e ∙ append_assoc b (44 ∷ c) (93 ∷ s)) (at_mark refl) (at_mark refl) in
      absurd (omega (arith, ap first_byte one.1))
  one_elements r s (Texts.more_elements {text = a} {rest = c} h hs) (Texts.one_element k) e =
      let one = one_value (44 ∷ (c ++ 93 ∷ r)) (93 ∷ s) h k (sym (append_assoc a (44 ∷ c) (93 ∷ r)) ∙ e) (at_mark refl) (at_mark refl) in
      absurd (omega (arith, ap first_byte one.1))
  one_elements r s (Texts.more_elements {text = a} {rest = c} {v = v} {vs = vs} h hs) (Texts.more_elements {text = b} {rest = d} {v = w} {vs = ws} k ks) e =
      let one = one_value (44 ∷ (c ++ 93 ∷ r)) (44 ∷ (d ++ 93 ∷ s)) h k (sym (append_assoc a (44 ∷ c) (93 ∷ r)) ∙ e ∙ append_assoc b (44 ∷ d) (93 ∷ s)) (at_mark refl) (at_mark refl) in
      let tails : 44 ∷ (c ++ 93 ∷ r) ≡ 44 ∷ (d ++ 93 ∷ s) = one.1 in
      let first : v ≡ w = one.0 in
      let others = one_elements r s hs ks cc in
      let rest : vs ≡ ws = others.0 in
      (rw (first, rest) refl, others.1)

  pub one_fields : {a b : List ℕ} {fs gs : NamedValues} (r s : List ℕ) → AreFieldTexts a fs → AreFieldTexts b gs → a ++ 125 ∷ r ≡ b ++ 125 ∷ s → (fs ≡ gs) × (r ≡ s)
  one_fields r s (Texts.one_field {name = m} {text = a} {v = v} x h) (Texts.one_field {name = n} {text = b} {v = w} y k) e =
      let names = one_name m n (a ++ 125 ∷ r) (b ++ 125 ∷ s) x y (sym (field_parts m a (125 ∷ r)) ∙ e ∙ field_parts n b (125 ∷ s)) in
      let one = one_value (125 ∷ r) (125 ∷ s) h k names.1 (at_mark refl) (at_mark refl) in
      let name : m ≡ n = names.0 in
      let first : v ≡ w = one.0 in
      let tails : 125 ∷ r ≡ 125 ∷ s = one.1 in
      (rw (name, first) refl, cc)
  one_fields r s (Texts.one_field {name = m} {text = a} x h) (Texts.more_fields {name = n} {text = b} {rest = d} y k ks) e =
      let names = one_name m n (a ++ 125 ∷ r) (b ++ 44 ∷ (d ++ 125 ∷ s)) x y (sym (field_parts m a (125 ∷ r)) ∙ e ∙ fields_parts n b d (125 ∷ s)) in
      let one = one_value (125 ∷ r) (44 ∷ (d ++ 125 ∷ s)) h k names.1 (at_mark refl) (at_mark refl) in
      absurd (omega (arith, ap first_byte one.1))
  one_fields r s (Texts.more_fields {name = m} {text = a} {rest = c} x h hs) (Texts.one_field {name = n} {text = b} y k) e =
      let names = one_name m n (a ++ 44 ∷ (c ++ 125 ∷ r)) (b ++ 125 ∷ s) x y (sym (fields_parts m a c (125 ∷ r)) ∙ e ∙ field_parts n b (125 ∷ s)) in
      let one = one_value (44 ∷ (c ++ 125 ∷ r)) (125 ∷ s) h k names.1 (at_mark refl) (at_mark refl) in
      absurd (omega (arith, ap first_byte one.1))
  one_fields r s (Texts.more_fields {name = m} {text = a} {rest = c} {v = v} {fs = fs} x h hs) (Texts.more_fields {name = n} {text = b} {rest = d} {v = w} {fs = gs} y k ks) e =
      let names = one_name m n (a ++ 44 ∷ (c ++ 125 ∷ r)) (b ++ 44 ∷ (d ++ 125 ∷ s)) x y (sym (fields_parts m a c (125 ∷ r)) ∙ e ∙ fields_parts n b d (125 ∷ s)) in
      let one = one_value (44 ∷ (c ++ 125 ∷ r)) (44 ∷ (d ++ 125 ∷ s)) h k names.1 (at_mark refl) (at_mark refl) in
      let tails : 44 ∷ (c ++ 125 ∷ r) ≡ 44 ∷ (d ++ 125 ∷ s) = one.1 in
      let others = one_fields r s hs ks cc in
      let name : m ≡ n = names.0 in
      let first : v ≡ w = one.0 in
      let rest : fs ≡ gs = others.0 in
      (rw (name, first, rest) refl, others.1)

-- a text says one value at most
pub one_value_of : (text : List ℕ) (v w : Value) → IsValueText text v → IsValueText text w → v ≡ w
one_value_of text v w h k = (one_value [] [] h k refl at_end at_end).0
