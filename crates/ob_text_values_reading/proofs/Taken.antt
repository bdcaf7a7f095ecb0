-- What is taken off a text that begins with a value: each part is what it is, and there is no other.
use Rattle.std.proofs.Common.{◌≡◌, ◌≢◌, ◌∙◌, ◌==◌, Bool, true, false, IsTrue, Bor, Result, Ok, Err, IfOk, length, ℕ, ◌-◌, ◌≤◌, ◌⊎◌, inl, inr, List, [], ◌∷◌, ◌++◌, Option, Some, None, MatchOption, refl, sym, ap, subst, arith, append_assoc, append-nil, codes, string_bytes}
use Rattle.std.proofs.lemmas.Bool.{false≢true}
use Rattle.std.proofs.lemmas.Bool.Decides.{nat_tests}
use Rattle.ob_carry.specs.View.{elements_of, fields_of, named_in}
use Rattle.ob_carry.specs.declared.fields_by_name.NamedField.{NamedField}
use Rattle.ob_carry.specs.declared.fields_by_name.NamedValue.{NamedValue}
use Rattle.ob_interface.specs.declared.no_memory.NoMemory.{NoMemory}
use Rattle.ob_interface.specs.declared.scalar.Scalar.{Scalar}
use Rattle.ob_interface.specs.declared.scalar.ScalarType.{ScalarType}
use Rattle.ob_meaning.specs.ByNameValue as Values
use Rattle.ob_meaning.specs.ByNameValue.{Value, NamedValues}
use Rattle.ob_text_words.specs.Values.{IsValue}
use Rattle.ob_text_words.specs.Words.{IsName, Word}
use Rattle.ob_text_values_reading.proofs.OneValue.{field_parts, fields_parts, name_unmarked, no_brace_fields, one_name, one_elements, one_fields, one_value, scalar_begins, scalar_unmarked, no_array_scalar, no_record_scalar}
use Rattle.ob_text_values_reading.specs.Taking as Taking
use Rattle.ob_text_values_reading.specs.Taking.{Ends, FindsElements, FindsFields, FindsSomeFields, HasNoMark, IsNoBracket, PartsAtMark, TakesElements, TakesField, TakesFields, TakesSomeFields, TakesValue, at_end, at_mark}
use Rattle.ob_text_values_reading.specs.ValueTexts as Texts
use Rattle.ob_text_values_reading.specs.ValueTexts.{AreElementTexts, AreFieldTexts, IsValueText, depth_of, SaysValue, deepest_value, depth_of_elements, depth_of_fields}

abbrev first_or : List ℕ → ℕ
first_or [] = 0
first_or (b ∷ rest) = b

unlike : (a b : ℕ) (x y : List ℕ) → a ∷ x ≡ b ∷ y → (a ≡ b → ⊥) → ⊥
unlike a b x y e differ = differ (ap first_or e)

behind_first : (a : ℕ) {x y : List ℕ} → a ∷ x ≡ a ∷ y → x ≡ y
behind_first a e = cc

-- what is taken off a text is one value, with one rest
pub one_taken : {l m : ℕ} {text : List ℕ} {v w : Value} {r s : List ℕ} → TakesValue l text v r → TakesValue m text w s → (v ≡ w) × (r ≡ s)
one_taken {r = r} {s = s} h k = one_value r s h.says k.says (sym h.parts ∙ k.parts) h.ends k.ends

abbrev pub elements_before : List NamedValue → Values.Values → Values.Values
elements_before [] others = others
elements_before (v ∷ vs) others = Values.value (named_in v) (elements_before vs others)

abbrev pub fields_before : List NamedField → NamedValues → NamedValues
fields_before [] others = others
fields_before (f ∷ fs) others = Values.named (string_bytes f.name) (named_in f.value) (fields_before fs others)

pub elements_before-push : (vs : List NamedValue) (v : NamedValue) (others : Values.Values) → elements_before (vs ++ v ∷ []) others ≡ elements_before vs (Values.value (named_in v) others)
elements_before-push [] v others = refl
elements_before-push (u ∷ vs) v others = ap (Values.value (named_in u)) (elements_before-push vs v others)

pub elements_before-none : (vs : List NamedValue) → elements_before vs Values.no_value ≡ elements_of vs
elements_before-none [] = refl
elements_before-none (v ∷ vs) = ap (Values.value (named_in v)) (elements_before-none vs)

pub fields_before-push : (fs : List NamedField) (f : NamedField) (others : NamedValues) → fields_before (fs ++ f ∷ []) others ≡ fields_before fs (Values.named (string_bytes f.name) (named_in f.value) others)
fields_before-push [] f others = refl
fields_before-push (g ∷ fs) f others = ap (Values.named (string_bytes g.name) (named_in g.value)) (fields_before-push fs f others)

pub fields_before-none : (fs : List NamedField) → fields_before fs Values.no_named ≡ fields_of fs
fields_before-none [] = refl
fields_before-none (f ∷ fs) = ap (Values.named (string_bytes f.name) (named_in f.value)) (fields_before-none fs)

-- ---- elements

-- the first element, and ] or a comma and others behind it
pub record FirstElement (limit : ℕ) (text : List ℕ) (vs : Values.Values) (rest : List ℕ) : Type 0 where
  pub v : Value
  pub behind : List ℕ
  pub takes : TakesValue limit text v behind
  pub then : ((behind ≡ 93 ∷ rest) × (vs ≡ Values.value v Values.no_value))
      ⊎ ((left : List ℕ) × (ws : Values.Values) × (behind ≡ 44 ∷ left) × TakesElements limit left ws rest × (vs ≡ Values.value v ws))

first_of : (limit : ℕ) (text inner : List ℕ) (vs : Values.Values) (rest : List ℕ) → text ≡ inner ++ 93 ∷ rest → AreElementTexts inner vs → depth_of_elements vs ≤ limit → FirstElement limit text vs rest
first_of limit text inner vs rest parts (Texts.one_element {v = v} h) small =
    record {
      v = v;
      behind = 93 ∷ rest;
      takes = record { word = inner; parts = parts; says = h; ends = at_mark refl; shallow = omega (arith, small) };
      then = inl (refl, refl);
    }
first_of limit text inner vs rest parts (Texts.more_elements {text = word} {rest = others} {v = v} {vs = ws} h hs) small =
    record {
      v = v;
      behind = 44 ∷ (others ++ 93 ∷ rest);
      takes = record { word = word; parts = parts ∙ append_assoc word (44 ∷ others) (93 ∷ rest); says = h; ends = at_mark refl; shallow = omega (arith, small) };
      then = inr (others ++ 93 ∷ rest, ws, refl, record { inner = others; parts = refl; say = hs; shallow = omega (arith, small) }, refl);
    }

pub first_element : {limit : ℕ} {text : List ℕ} {vs : Values.Values} {rest : List ℕ} → TakesElements limit text vs rest → FirstElement limit text vs rest
first_element {limit} {text} {vs} {rest} h = first_of limit text h.inner vs rest h.parts h.say h.shallow

pub last_element : {limit : ℕ} {text behind rest : List ℕ} {v : Value} → TakesValue limit text v behind → behind ≡ 93 ∷ rest → TakesElements limit text (Values.value v Values.no_value) rest
last_element {v = v} h e = record { inner = h.word; parts = h.parts ∙ ap (λ t. h.word ++ t) e; say = Texts.one_element h.says; shallow = omega (arith, h.shallow) }

pub element_then : {limit : ℕ} {text behind left rest : List ℕ} {v : Value} {vs : Values.Values} → TakesValue limit text v behind → behind ≡ 44 ∷ left → TakesElements limit left vs rest →
    TakesElements limit text (Values.value v vs) rest
element_then {rest = rest} h e k = record {
  inner = h.word ++ 44 ∷ k.inner;
  parts = h.parts ∙ ap (λ t. h.word ++ t) (e ∙ ap (λ t. 44 ∷ t) k.parts) ∙ sym (append_assoc h.word (44 ∷ k.inner) (93 ∷ rest));
  say = Texts.more_elements h.says k.say;
  shallow = omega (arith, h.shallow, k.shallow);
}

-- these elements have been taken off a text, and this is left
pub record ElementsTo (limit : ℕ) (text left : List ℕ) (vs : List NamedValue) : Type 0 where
  pub onward : (ws : Values.Values) (rest : List ℕ) → TakesElements limit left ws rest → TakesElements limit text (elements_before vs ws) rest
  pub behind : (us : Values.Values) (rest : List ℕ) → TakesElements limit text us rest → (ws : Values.Values) × TakesElements limit left ws rest

pub no_element_yet : (limit : ℕ) (text : List ℕ) (vs : List NamedValue) → vs ≡ [] → ElementsTo limit text text vs
no_element_yet limit text vs e = rw e (record { onward = λ ws rest h. h; behind = λ us rest h. (us, h) })

module _ (limit : ℕ) (text left behind : List ℕ) (vs : List NamedValue) (v : NamedValue) (so_far : ElementsTo limit text left vs) (takes : TakesValue limit left (named_in v) behind) where
  pub one_element_more : (next : List NamedValue) (more : List ℕ) → next ≡ vs ++ v ∷ [] → behind ≡ 44 ∷ more → ElementsTo limit text more next
  one_element_more next more n e =
      rw n
      (record {
        onward = λ ws rest h.
            subst (λ (us : Values.Values). TakesElements limit text us rest) (sym (elements_before-push vs v ws)) (so_far.onward (Values.value (named_in v) ws) rest (element_then takes e h));
        behind = λ us rest h.
            let f = first_element (so_far.behind us rest h).1 in
            let same : behind ≡ f.behind = (one_taken takes f.takes).1 in
            elim f.then [
              | inl k ↦ absurd (unlike 44 93 more rest (sym e ∙ same ∙ k.0) (λ x. absurd (omega (arith, x))))
              | inr k ↦ (k.1, subst (λ (t : List ℕ). TakesElements limit t k.1 rest) (behind_first 44 (sym k.2 ∙ sym same ∙ e)) k.3)
            ];
      })

  pub last_taken : (next : List NamedValue) (rest : List ℕ) → next ≡ vs ++ v ∷ [] → behind ≡ 93 ∷ rest → TakesElements limit text (elements_of next) rest
  last_taken next rest n e =
      rw n
      (subst (λ (us : Values.Values). TakesElements limit text us rest) (sym (elements_before-push vs v Values.no_value) ∙ elements_before-none (vs ++ v ∷ []))
      (so_far.onward (Values.value (named_in v) Values.no_value) rest (last_element takes e)))

  -- behind an element stands neither a comma nor a bracket
  pub no_more_elements : ((rest : List ℕ) → behind ≢ 44 ∷ rest) → ((rest : List ℕ) → behind ≢ 93 ∷ rest) → (us : Values.Values) (rest : List ℕ) → TakesElements limit text us rest → ⊥
  no_more_elements no_comma no_bracket us rest h =
      let f = first_element (so_far.behind us rest h).1 in
      let same : behind ≡ f.behind = (one_taken takes f.takes).1 in
      elim f.then [
        | inl k ↦ no_bracket rest (same ∙ k.0)
        | inr k ↦ no_comma k.0 (same ∙ k.2)
      ]

pub no_element : (limit : ℕ) (text left : List ℕ) (vs : List NamedValue) → ElementsTo limit text left vs → ((v : Value) (rest : List ℕ) → TakesValue limit left v rest → ⊥) →
    (us : Values.Values) (rest : List ℕ) → TakesElements limit text us rest → ⊥
no_element limit text left vs so_far none us rest h =
    let f = first_element (so_far.behind us rest h).1 in
    none f.v f.behind f.takes

-- ---- fields

-- what is taken off a text is one field, with one rest
pub one_field_taken : {l m : ℕ} {text a b : List ℕ} {v w : Value} {r s : List ℕ} → TakesField l text a v r → TakesField m text b w s → (r ≡ s)
one_field_taken {l} {m} {text} {a} {b} h k =
    let names = one_name a b h.behind k.behind h.names k.names (sym h.parts ∙ k.parts) in
    (one_taken h.takes (subst (λ (t : List ℕ). TakesValue m t _ _) (sym names.1) k.takes)).1

-- the first field, and } or a comma and others behind it
pub record FirstField (limit : ℕ) (text : List ℕ) (fs : NamedValues) (rest : List ℕ) : Type 0 where
  pub name : List ℕ
  pub v : Value
  pub behind : List ℕ
  pub takes : TakesField limit text name v behind
  pub then : ((behind ≡ 125 ∷ rest) × (fs ≡ Values.named name v Values.no_named))
      ⊎ ((left : List ℕ) × (gs : NamedValues) × (behind ≡ 44 ∷ left) × TakesFields limit left gs rest × (fs ≡ Values.named name v gs))

first_field_of : (limit : ℕ) (text inner : List ℕ) (fs : NamedValues) (rest : List ℕ) → text ≡ inner ++ 125 ∷ rest → AreFieldTexts inner fs → depth_of_fields fs ≤ limit → FirstField limit text fs rest
first_field_of limit text inner fs rest parts (Texts.one_field {name = name} {text = word} {v = v} n h) small =
    record {
      name = name;
      v = v;
      behind = 125 ∷ rest;
      takes = record {
        behind = word ++ 125 ∷ rest;
        parts = parts ∙ field_parts name word (125 ∷ rest);
        names = n;
        takes = record { word = word; parts = refl; says = h; ends = at_mark refl; shallow = omega (arith, small) };
      };
      then = inl (refl, refl);
    }
first_field_of limit text inner fs rest parts (Texts.more_fields {name = name} {text = word} {rest = others} {v = v} {fs = gs} n h hs) small =
    record {
      name = name;
      v = v;
      behind = 44 ∷ (others ++ 125 ∷ rest);
      takes = record {
        behind = word ++ 44 ∷ (others ++ 125 ∷ rest);
        parts = parts ∙ fields_parts name word others (125 ∷ rest);
        names = n;
        takes = record { word = word; parts = refl; says = h; ends = at_mark refl; shallow = omega (arith, small) };
      };
      then = inr (others ++ 125 ∷ rest, gs, refl, record { inner = others; parts = refl; say = hs; shallow = omega (arith, small) }, refl);
    }

pub first_field : {limit : ℕ} {text : List ℕ} {fs : NamedValues} {rest : List ℕ} → TakesFields limit text fs rest → FirstField limit text fs rest
first_field {limit} {text} {fs} {rest} h = first_field_of limit text h.inner fs rest h.parts h.say h.shallow

pub last_field : {limit : ℕ} {text name behind rest : List ℕ} {v : Value} → TakesField limit text name v behind → behind ≡ 125 ∷ rest → TakesFields limit text (Values.named name v Values.no_named) rest
last_field {name = name} {rest = rest} h e =
    record {
      inner = name ++ 61 ∷ h.takes.word;
      parts = h.parts ∙ ap (λ t. name ++ 61 ∷ t) (h.takes.parts ∙ ap (λ t. h.takes.word ++ t) e) ∙ sym (field_parts name h.takes.word (125 ∷ rest));
      say = Texts.one_field h.names h.takes.says;
      shallow = omega (arith, h.takes.shallow);
    }

pub field_then : {limit : ℕ} {text name behind left rest : List ℕ} {v : Value} {fs : NamedValues} → TakesField limit text name v behind → behind ≡ 44 ∷ left → TakesFields limit left fs rest →
    TakesFields limit text (Values.named name v fs) rest
field_then {name = name} {rest = rest} h e k = record {
  inner = name ++ 61 ∷ (h.takes.word ++ 44 ∷ k.inner);
  parts =
      h.parts ∙ ap (λ t. name ++ 61 ∷ t) (h.takes.parts ∙ ap (λ t. h.takes.word ++ t) (e ∙ ap (λ t. 44 ∷ t) k.parts))
      ∙ sym (fields_parts name h.takes.word k.inner (125 ∷ rest));
  say = Texts.more_fields h.names h.takes.says k.say;
  shallow = omega (arith, h.takes.shallow, k.shallow);
}

-- these fields have been taken off a text, and this is left
pub record FieldsTo (limit : ℕ) (text left : List ℕ) (fs : List NamedField) : Type 0 where
  pub onward : (gs : NamedValues) (rest : List ℕ) → TakesFields limit left gs rest → TakesFields limit text (fields_before fs gs) rest
  pub behind : (us : NamedValues) (rest : List ℕ) → TakesFields limit text us rest → (gs : NamedValues) × TakesFields limit left gs rest

pub no_field_yet : (limit : ℕ) (text : List ℕ) (fs : List NamedField) → fs ≡ [] → FieldsTo limit text text fs
no_field_yet limit text fs e = rw e (record { onward = λ gs rest h. h; behind = λ us rest h. (us, h) })

module _ (limit : ℕ) (text left behind : List ℕ) (fs : List NamedField) (f : NamedField) (so_far : FieldsTo limit text left fs)
    (takes : TakesField limit left (string_bytes f.name) (named_in f.value) behind) where
  pub one_field_more : (next : List NamedField) (more : List ℕ) → next ≡ fs ++ f ∷ [] → behind ≡ 44 ∷ more → FieldsTo limit text more next
  one_field_more next more n e =
      rw n
      (record {
        onward = λ gs rest h.
            subst (λ (us : NamedValues). TakesFields limit text us rest) (sym (fields_before-push fs f gs))
            (so_far.onward (Values.named (string_bytes f.name) (named_in f.value) gs) rest (field_then takes e h));
        behind = λ us rest h.
            let g = first_field (so_far.behind us rest h).1 in
            let same : behind ≡ g.behind = one_field_taken takes g.takes in
            elim g.then [
              | inl k ↦ absurd (unlike 44 125 more rest (sym e ∙ same ∙ k.0) (λ x. absurd (omega (arith, x))))
              | inr k ↦ (k.1, subst (λ (t : List ℕ). TakesFields limit t k.1 rest) (behind_first 44 (sym k.2 ∙ sym same ∙ e)) k.3)
            ];
      })

  pub last_field_taken : (next : List NamedField) (rest : List ℕ) → next ≡ fs ++ f ∷ [] → behind ≡ 125 ∷ rest → TakesFields limit text (fields_of next) rest
  last_field_taken next rest n e =
      rw n
      (subst (λ (us : NamedValues). TakesFields limit text us rest) (sym (fields_before-push fs f Values.no_named) ∙ fields_before-none (fs ++ f ∷ []))
      (so_far.onward (Values.named (string_bytes f.name) (named_in f.value) Values.no_named) rest (last_field takes e)))

  -- behind a field stands neither a comma nor a brace
  pub no_more_fields : ((rest : List ℕ) → behind ≢ 44 ∷ rest) → ((rest : List ℕ) → behind ≢ 125 ∷ rest) → (us : NamedValues) (rest : List ℕ) → TakesFields limit text us rest → ⊥
  no_more_fields no_comma no_brace us rest h =
      let g = first_field (so_far.behind us rest h).1 in
      let same : behind ≡ g.behind = one_field_taken takes g.takes in
      elim g.then [
        | inl k ↦ no_brace rest (same ∙ k.0)
        | inr k ↦ no_comma k.0 (same ∙ k.2)
      ]

pub no_field : (limit : ℕ) (text left : List ℕ) (fs : List NamedField) → FieldsTo limit text left fs → ((name : List ℕ) (v : Value) (rest : List ℕ) → TakesField limit left name v rest → ⊥) →
    (us : NamedValues) (rest : List ℕ) → TakesFields limit text us rest → ⊥
no_field limit text left fs so_far none us rest h =
    let g = first_field (so_far.behind us rest h).1 in
    none g.name g.v g.behind g.takes

-- ---- values

pub scalar_taken : (text word rest : List ℕ) (type : ScalarType) (s : Scalar) → word ++ rest ≡ text → Ends rest → IsValue type word s → (limit : ℕ) → TakesValue limit text (Values.Single s) rest
scalar_taken text word rest type s parts ends h limit = record { word = word; parts = sym parts; says = Texts.scalar h; ends = ends; shallow = omega arith }

no_scalar_of : (text word rest other : List ℕ) (v : Value) (r : List ℕ) → IsNoBracket text → PartsAtMark text word rest → ((type : ScalarType) (s : Scalar) → IsValue type word s → ⊥) →
    text ≡ other ++ r → Ends r → IsValueText other v → ⊥
no_scalar_of text word rest other v r bare parted none parts ends (Texts.scalar {type = type} {s = s} h) =
    none type s (subst (λ (w : Word). IsValue type w s) (sym (parted other r parts (scalar_unmarked type other s h) ends).0) h)
no_scalar_of text word rest other v r bare parted none parts ends (Texts.array h) = bare.no_array _ parts
no_scalar_of text word rest other v r bare parted none parts ends Texts.no_field = bare.no_record _ parts
no_scalar_of text word rest other v r bare parted none parts ends (Texts.fields h) = bare.no_record _ parts

pub no_scalar : (text word rest : List ℕ) → IsNoBracket text → PartsAtMark text word rest → ((type : ScalarType) (s : Scalar) → IsValue type word s → ⊥) →
    (limit : ℕ) (v : Value) (r : List ℕ) → TakesValue limit text v r → ⊥
no_scalar text word rest bare parted none limit v r h = no_scalar_of text word rest h.word v r bare parted none h.parts h.ends h.says

pub array_taken : (limit : ℕ) (text : List ℕ) (vs : Values.Values) (rest : List ℕ) → limit ≢ 0 → TakesElements (limit - 1) text vs rest → Ends rest → TakesValue limit (91 ∷ text) (Values.Elements vs) rest
array_taken limit text vs rest some h ends =
    record {
      word = 91 ∷ h.inner ++ 93 ∷ [];
      parts = ap (λ t. 91 ∷ t) (h.parts ∙ sym (append_assoc h.inner (93 ∷ []) rest));
      says = Texts.array h.say;
      ends = ends;
      shallow = omega (arith, h.shallow, some);
    }

-- the elements behind [
pub record IsArray (limit : ℕ) (text rest : List ℕ) : Type 0 where
  pub vs : Values.Values
  pub some : limit ≢ 0
  pub takes : TakesElements (limit - 1) text vs rest
  pub ends : Ends rest

array_of : (limit : ℕ) (text word : List ℕ) (v : Value) (rest : List ℕ) → 91 ∷ text ≡ word ++ rest → Ends rest → depth_of v ≤ limit → IsValueText word v → IsArray limit text rest
array_of limit text word v rest parts ends small (Texts.scalar {type = type} {s = s} h) = absurd (no_array_scalar word rest text (scalar_begins type word s h) (sym parts))
array_of limit text word v rest parts ends small (Texts.array {inner = inner} {vs = vs} h) =
    record {
      vs = vs;
      some = λ e. omega (arith, small, e);
      takes = record { inner = inner; parts = behind_first 91 (parts ∙ ap (λ t. 91 ∷ t) (append_assoc inner (93 ∷ []) rest)); say = h; shallow = omega (arith, small) };
      ends = ends;
    }
array_of limit text word v rest parts ends small Texts.no_field = absurd (unlike 91 123 _ _ parts (λ x. omega (arith, x)))
array_of limit text word v rest parts ends small (Texts.fields h) = absurd (unlike 91 123 _ _ parts (λ x. omega (arith, x)))

pub array_within : {limit : ℕ} {text : List ℕ} {v : Value} {rest : List ℕ} → TakesValue limit (91 ∷ text) v rest → IsArray limit text rest
array_within {limit} {text} {v} {rest} h = array_of limit text h.word v rest h.parts h.ends h.shallow h.says

record_taken_of : {limit : ℕ} {text : List ℕ} {fs : NamedValues} {rest : List ℕ} → limit ≢ 0 → TakesSomeFields (limit - 1) text fs rest → Ends rest → TakesValue limit (123 ∷ text) (Values.Named fs) rest
record_taken_of some Taking.no_field ends = record { word = codes "{}"; parts = refl; says = Texts.no_field; ends = ends; shallow = omega (arith, some) }
record_taken_of {rest = rest} some (Taking.some_fields h) ends =
    record {
      word = 123 ∷ h.inner ++ 125 ∷ [];
      parts = ap (λ t. 123 ∷ t) (h.parts ∙ sym (append_assoc h.inner (125 ∷ []) rest));
      says = Texts.fields h.say;
      ends = ends;
      shallow = omega (arith, h.shallow, some);
    }

pub record_taken : (limit : ℕ) (text : List ℕ) (fs : NamedValues) (rest : List ℕ) → limit ≢ 0 → TakesSomeFields (limit - 1) text fs rest → Ends rest → TakesValue limit (123 ∷ text) (Values.Named fs) rest
record_taken limit text fs rest some h ends = record_taken_of some h ends

-- the fields behind {
pub record IsRecordText (limit : ℕ) (text rest : List ℕ) : Type 0 where
  pub fs : NamedValues
  pub some : limit ≢ 0
  pub takes : TakesSomeFields (limit - 1) text fs rest
  pub ends : Ends rest

record_of : (limit : ℕ) (text word : List ℕ) (v : Value) (rest : List ℕ) → 123 ∷ text ≡ word ++ rest → Ends rest → depth_of v ≤ limit → IsValueText word v → IsRecordText limit text rest
record_of limit text word v rest parts ends small (Texts.scalar {type = type} {s = s} h) = absurd (no_record_scalar word rest text (scalar_begins type word s h) (sym parts))
record_of limit text word v rest parts ends small (Texts.array h) = absurd (unlike 123 91 _ _ parts (λ x. omega (arith, x)))
record_of limit text word v rest parts ends small Texts.no_field =
    record {
      fs = Values.no_named;
      some = λ e. omega (arith, small, e);
      takes = subst (λ (t : List ℕ). TakesSomeFields (limit - 1) t Values.no_named rest) (sym (behind_first 123 parts)) Taking.no_field;
      ends = ends;
    }
record_of limit text word v rest parts ends small (Texts.fields {inner = inner} {fs = fs} h) =
    record {
      fs = fs;
      some = λ e. omega (arith, small, e);
      takes = Taking.some_fields (record {
        inner = inner;
        parts = behind_first 123 (parts ∙ ap (λ t. 123 ∷ t) (append_assoc inner (125 ∷ []) rest));
        say = h;
        shallow = omega (arith, small);
      });
      ends = ends;
    }

pub record_within : {limit : ℕ} {text : List ℕ} {v : Value} {rest : List ℕ} → TakesValue limit (123 ∷ text) v rest → IsRecordText limit text rest
record_within {limit} {text} {v} {rest} h = record_of limit text h.word v rest h.parts h.ends h.shallow h.says

-- ---- what stands behind arrays and records

pub one_elements_rest : {l m : ℕ} {text : List ℕ} {vs ws : Values.Values} {r s : List ℕ} → TakesElements l text vs r → TakesElements m text ws s → r ≡ s
one_elements_rest {r = r} {s = s} h k = (one_elements r s h.say k.say (sym h.parts ∙ k.parts)).1

fields_and_none : {inner : List ℕ} {fs : NamedValues} (r s : List ℕ) → AreFieldTexts inner fs → 125 ∷ s ≡ inner ++ 125 ∷ r → ⊥
fields_and_none r s h e = no_brace_fields (125 ∷ r) s h (sym e)

some_fields_rest : {l m : ℕ} {text other : List ℕ} {fs gs : NamedValues} {r s : List ℕ} → text ≡ other → TakesSomeFields l text fs r → TakesSomeFields m other gs s → r ≡ s
some_fields_rest e Taking.no_field Taking.no_field = behind_first 125 e
some_fields_rest e (Taking.no_field {rest = r}) (Taking.some_fields {rest = s} k) = absurd (fields_and_none s r k.say (e ∙ k.parts))
some_fields_rest e (Taking.some_fields {rest = r} h) (Taking.no_field {rest = s}) = absurd (fields_and_none r s h.say (sym e ∙ h.parts))
some_fields_rest e (Taking.some_fields {rest = r} h) (Taking.some_fields {rest = s} k) = (one_fields r s h.say k.say (sym h.parts ∙ e ∙ k.parts)).1

pub one_fields_rest : {l m : ℕ} {text : List ℕ} {fs gs : NamedValues} {r s : List ℕ} → TakesSomeFields l text fs r → TakesSomeFields m text gs s → r ≡ s
one_fields_rest h k = some_fields_rest refl h k

pub not_ended : {b : Bool} → IsTrue b → b ≡ false → ⊥
not_ended h e = false≢true (sym e ∙ h)

-- fields that may be none
pub no_fields_here : (limit : ℕ) (text : List ℕ) → ((rest : List ℕ) → text ≢ 125 ∷ rest) → ((fs : NamedValues) (rest : List ℕ) → TakesFields limit text fs rest → ⊥) →
    (fs : NamedValues) (rest : List ℕ) → TakesSomeFields limit text fs rest → ⊥
no_fields_here limit text bare none fs rest h = without refl h
  where
    without : {other : List ℕ} {gs : NamedValues} {r : List ℕ} → text ≡ other → TakesSomeFields limit other gs r → ⊥
    without {r = r} e Taking.no_field = bare r e
    without {gs = gs} {r = r} e (Taking.some_fields h) = none gs r (subst (λ (t : List ℕ). TakesFields limit t gs r) (sym e) h)

pub none_taken : (limit : ℕ) (text rest : List ℕ) → text ≡ 125 ∷ rest → TakesSomeFields limit text Values.no_named rest
none_taken limit text rest e = rw e Taking.no_field

pub no_equal : (text word behind : List ℕ) → PartsAtMark text word behind → ((rest : List ℕ) → behind ≢ 61 ∷ rest) →
    (limit : ℕ) (name : List ℕ) (v : Value) (rest : List ℕ) → TakesField limit text name v rest → ⊥
no_equal text word behind parted none limit name v rest h = none h.behind (parted name (61 ∷ h.behind) h.parts (name_unmarked name h.names) (at_mark refl)).1

pub no_name : (text word behind inner : List ℕ) → PartsAtMark text word behind → behind ≡ 61 ∷ inner → (IsName word → ⊥) →
    (limit : ℕ) (name : List ℕ) (v : Value) (rest : List ℕ) → TakesField limit text name v rest → ⊥
no_name text word behind inner parted e none limit name v rest h =
    none (subst IsName (sym (parted name (61 ∷ h.behind) h.parts (name_unmarked name h.names) (at_mark refl)).0) h.names)

pub no_field_value : (text word behind inner : List ℕ) (limit : ℕ) → PartsAtMark text word behind → behind ≡ 61 ∷ inner → ((v : Value) (rest : List ℕ) → TakesValue limit inner v rest → ⊥) →
    (name : List ℕ) (v : Value) (rest : List ℕ) → TakesField limit text name v rest → ⊥
no_field_value text word behind inner limit parted e none name v rest h =
    let same : 61 ∷ inner ≡ 61 ∷ h.behind = sym e ∙ (parted name (61 ∷ h.behind) h.parts (name_unmarked name h.names) (at_mark refl)).1 in
    none v rest (subst (λ (t : List ℕ). TakesValue limit t v rest) (sym (behind_first 61 same)) h.takes)

pub field_taken : (text word behind inner name : List ℕ) (limit : ℕ) (v : Value) (rest : List ℕ) → word ++ behind ≡ text → behind ≡ 61 ∷ inner → IsName word → name ≡ word → TakesValue limit inner v rest →
    TakesField limit text name v rest
field_taken text word behind inner name limit v rest joined e n is h =
    rw is (record { behind = inner; parts = sym joined ∙ ap (λ t. word ++ t) e; names = n; takes = h })

pub bare : (text : List ℕ) → ((rest : List ℕ) → text ≢ 91 ∷ rest) → ((rest : List ℕ) → text ≢ 123 ∷ rest) → IsNoBracket text
bare text h k = record { no_array = h; no_record = k }

-- ---- what the functions find

-- the bracket behind the last element, or none
pub elements_end : (limit : ℕ) (text left behind : List ℕ) (vs : List NamedValue) (v : NamedValue) (next : List NamedValue) (found : Option (Bor (List ℕ))) → ElementsTo limit text left vs →
    TakesValue limit left (named_in v) behind → next ≡ vs ++ v ∷ [] → ((rest : List ℕ) → behind ≢ 44 ∷ rest) → MatchOption found ((rest : List ℕ) → behind ≢ 93 ∷ rest) (λ rest. behind ≡ 93 ∷ rest.now) →
    FindsElements limit text next found
elements_end limit text left behind vs v next None so_far takes n none h = no_more_elements limit text left behind vs v so_far takes none h
elements_end limit text left behind vs v next (Some rest) so_far takes n none h = last_taken limit text left behind vs v so_far takes next rest.now n h

-- the brace behind the last field, or none
pub fields_end : (limit : ℕ) (text left behind : List ℕ) (fs : List NamedField) (f : NamedField) (next : List NamedField) (found : Option (Bor (List ℕ))) → FieldsTo limit text left fs →
    TakesField limit left (string_bytes f.name) (named_in f.value) behind → next ≡ fs ++ f ∷ [] → ((rest : List ℕ) → behind ≢ 44 ∷ rest) → MatchOption found ((rest : List ℕ) → behind ≢ 125 ∷ rest) (λ rest. behind ≡ 125 ∷ rest.now) →
    FindsFields limit text next found
fields_end limit text left behind fs f next None so_far takes n none h = no_more_fields limit text left behind fs f so_far takes none h
fields_end limit text left behind fs f next (Some rest) so_far takes n none h = last_field_taken limit text left behind fs f so_far takes next rest.now n h

pub some_fields_found : (limit : ℕ) (text : List ℕ) (fs : List NamedField) (found : Result (Option (Bor (List ℕ))) NoMemory) → ((rest : List ℕ) → text ≢ 125 ∷ rest) → IfOk found (FindsFields limit text fs) →
    IfOk found (FindsSomeFields limit text fs)
some_fields_found limit text fs (Ok None) none h = no_fields_here limit text none h
some_fields_found limit text fs (Ok (Some rest)) none h = Taking.some_fields h
some_fields_found limit text fs (Err e) none h = tt

-- the whole text
pub whole_taken : (text : List ℕ) (v : Value) → SaysValue text v → TakesValue deepest_value text v []
whole_taken text v h = record { word = text; parts = sym (append-nil text); says = h.says; ends = at_end; shallow = h.shallow }

pub nothing_behind : (rest : List ℕ) → true ≡ (length rest == 0) → rest ≡ []
nothing_behind [] e = refl
nothing_behind (b ∷ rest) e = absurd (false≢true (sym (grind (arith, nat_tests)) ∙ sym e))

something_behind : (rest : List ℕ) → false ≡ (length rest == 0) → rest ≡ [] → ⊥
something_behind rest e is = let none : (length rest == 0) ≡ true = rw is refl in false≢true (e ∙ none)

pub taken_text : (text : List ℕ) (v : Value) (rest : List ℕ) → TakesValue deepest_value text v rest → true ≡ (length rest == 0) → IsValueText text v
taken_text text v rest h e =
    let none : rest ≡ [] = nothing_behind rest e in
    subst (λ (t : List ℕ). IsValueText t v) (sym (h.parts ∙ ap (λ t. h.word ++ t) none ∙ append-nil h.word)) h.says

pub not_whole : (text : List ℕ) (v : Value) (rest : List ℕ) → TakesValue deepest_value text v rest → false ≡ (length rest == 0) → (w : Value) → SaysValue text w → ⊥
not_whole text v rest h e w k = something_behind rest e (one_taken h (whole_taken text w k)).1
