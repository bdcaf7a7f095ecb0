-- Elements and fields that are fitted one by one.
use Rattle.std.proofs.Common.{◌≡◌, ◌∙◌, ℕ, zero, suc, ◌+◌, ◌<◌, List, [], ◌∷◌, ◌++◌, length, get_or, take, Option, Some, None, option_map, Bool, true, false, String, Vec, string_bytes, refl, ap, sym, subst, arith, add-one}
use Rattle.std.proofs.lemmas.List.{take_all, take_more}
use Rattle.std.proofs.lemmas.Slice.Eq.{bytes_eq-Decides}
use Rattle.std.specs.Prelude.{bytes_eq, not}
use Rattle.std.specs.declared.alloc.Global.{Global}
use Rattle.ob_typing.specs.Program as Program
use Rattle.ob_typing.specs.Scopes as Declared
use Rattle.ob_checked.specs.declared.types.DataType.{DataType}
use Rattle.ob_checked.specs.Types.{fields_by, type_by}
use Rattle.ob_store.specs.declared.value.Value.{Value}
use Rattle.ob_store.specs.View.{value_in, values_in}
use Rattle.ob_meaning.specs.Same.{SameElements, SameFields, SameValue}
use Rattle.ob_meaning.specs.ByNameValue as Named
use Rattle.ob_meaning.specs.ByPositionValue as Values
use Rattle.ob_carry.specs.declared.fields_by_name.NamedField.{NamedField}
use Rattle.ob_carry.specs.declared.fields_by_name.NamedValue.{NamedValue}
use Rattle.ob_carry.specs.Values.{IsValueOf, AreElements, AreFieldsOf, IsFitted, AreFittedElements, AreFittedFields}
use Rattle.ob_carry.specs.View.{named_in, elements_of, fields_of}

-- elements

elements_more : (P : Named.Value → Type 0) (n : ℕ) (vs : List NamedValue) (v : NamedValue) → AreElements P n (elements_of vs) → P (named_in v) →
    AreElements P (suc n) (elements_of (vs ++ v ∷ []))
elements_more P zero [] v h p = (p, tt)
elements_more P zero (u ∷ vs) v h p = absurd h
elements_more P (suc n) [] v h p = absurd h
elements_more P (suc n) (u ∷ vs) v h p = (h.0, elements_more P n vs v h.1 p)

same_more : (R : Named.Value → Values.Value → Type 0) (n : ℕ) (vs : List NamedValue) (ws : List Value) (v : NamedValue) (w : Value) →
    SameElements R n (elements_of vs) (values_in ws) → R (named_in v) (value_in w) → SameElements R (suc n) (elements_of (vs ++ v ∷ [])) (values_in (ws ++ w ∷ []))
same_more R zero [] [] v w h r = (r, tt)
same_more R zero [] (x ∷ ws) v w h r = absurd h
same_more R zero (u ∷ vs) ws v w h r = absurd h
same_more R (suc n) [] ws v w h r = absurd h
same_more R (suc n) (u ∷ vs) [] v w h r = absurd h
same_more R (suc n) (u ∷ vs) (x ∷ ws) v w h r = (h.0, same_more R n vs ws v w h.1 r)

-- one element more
pub elements_step : (t : Program.DataType) (vs : List NamedValue) (i : ℕ) (v : NamedValue) (ws next : List Value) (w : Value) → i < length vs → v ≡ get_or vs i v →
    next ≡ ws ++ w ∷ [] → AreFittedElements t i (elements_of (take i vs)) (Some (values_in ws)) → IsFitted t (named_in v) (Some (value_in w)) →
    AreFittedElements t (i + 1) (elements_of (take (i + 1) vs)) (Some (values_in next))
elements_step t vs i v ws next w below at pushed so_far fit =
    let taken : take (i + 1) vs ≡ take i vs ++ v ∷ [] = take_more vs i v below ∙ ap (λ x. take i vs ++ x ∷ []) (sym at) in
    rw (taken, pushed, add-one)
    (elements_more (λ u. IsValueOf t u) i (take i vs) v so_far.0 fit.0, same_more (SameValue t) i (take i vs) ws v w so_far.1 fit.1)

-- elements that are all fitted
pub elements_end : (t : Program.DataType) (vs : List NamedValue) (n i : ℕ) (ws : List Value) → length vs ≡ n → i ≡ length vs →
    AreFittedElements t i (elements_of (take i vs)) (Some (values_in ws)) → AreFittedElements t n (elements_of vs) (Some (values_in ws))
elements_end t vs n i ws count end so_far =
    let all : take i vs ≡ vs = take_all i vs (omega arith) in
    let whole : i ≡ n = end ∙ count in
    subst (λ m. AreFittedElements t m (elements_of vs) (Some (values_in ws))) whole
    (subst (λ us. AreFittedElements t i (elements_of us) (Some (values_in ws))) all so_far)

pub count_of_elements : (P : Named.Value → Type 0) (n : ℕ) (vs : List NamedValue) → AreElements P n (elements_of vs) → length vs ≡ n
count_of_elements P zero [] h = refl
count_of_elements P zero (v ∷ vs) h = absurd h
count_of_elements P (suc n) [] h = absurd h
count_of_elements P (suc n) (v ∷ vs) h = ap suc (count_of_elements P n vs h.1)

-- each element is of the kind
pub element_among : (P : Named.Value → Type 0) (n : ℕ) (vs : List NamedValue) (i : ℕ) (v : NamedValue) → i < length vs → v ≡ get_or vs i v →
    AreElements P n (elements_of vs) → P (named_in v)
element_among P n [] i v below at h = absurd (omega (arith, below))
element_among P zero (u ∷ vs) i v below at h = absurd h
element_among P (suc n) (u ∷ vs) zero v below at h = subst (λ x. P (named_in x)) (sym at) h.0
element_among P (suc n) (u ∷ vs) (suc i) v below at h = element_among P n vs i v (omega (arith, below)) at h.1

-- fields

abbrev Entry : Type 0
Entry = String Global × DataType

fields_more : (ts : List Program.DataType) (fs : List Entry) (gs : List NamedField) (f : Entry) (g : NamedField) → AreFieldsOf (fields_by ts fs) (fields_of gs) →
    string_bytes g.name ≡ string_bytes f.0 → IsValueOf (type_by ts f.1) (named_in g.value) → AreFieldsOf (fields_by ts (fs ++ f ∷ [])) (fields_of (gs ++ g ∷ []))
fields_more ts [] [] f g h e v = (e, (v, tt))
fields_more ts [] (x ∷ gs) f g h e v = absurd h
fields_more ts (y ∷ fs) [] f g h e v = absurd h
fields_more ts (y ∷ fs) (x ∷ gs) f g h e v = (h.0, (h.1.0, fields_more ts fs gs f g h.1.1 e v))

same_fields_more : (ts : List Program.DataType) (fs : List Entry) (gs : List NamedField) (ws : List Value) (f : Entry) (g : NamedField) (w : Value) →
    SameFields (fields_by ts fs) (fields_of gs) (values_in ws) → string_bytes g.name ≡ string_bytes f.0 → SameValue (type_by ts f.1) (named_in g.value) (value_in w) →
    SameFields (fields_by ts (fs ++ f ∷ [])) (fields_of (gs ++ g ∷ [])) (values_in (ws ++ w ∷ []))
same_fields_more ts [] [] [] f g w h e v = (e, (v, tt))
same_fields_more ts [] [] (z ∷ ws) f g w h e v = absurd h
same_fields_more ts [] (x ∷ gs) ws f g w h e v = absurd h
same_fields_more ts (y ∷ fs) [] ws f g w h e v = absurd h
same_fields_more ts (y ∷ fs) (x ∷ gs) [] f g w h e v = absurd h
same_fields_more ts (y ∷ fs) (x ∷ gs) (z ∷ ws) f g w h e v = (h.0, (h.1.0, same_fields_more ts fs gs ws f g w h.1.1 e v))

-- one field more
pub fields_step : (ts : List Program.DataType) (fs : List Entry) (gs : List NamedField) (i : ℕ) (f : Entry) (g : NamedField) (ws next : List Value) (w : Value) →
    i < length fs → f ≡ get_or fs i f → i < length gs → g ≡ get_or gs i g → next ≡ ws ++ w ∷ [] → string_bytes g.name ≡ string_bytes f.0 →
    AreFittedFields (fields_by ts (take i fs)) (fields_of (take i gs)) (Some (values_in ws)) → IsFitted (type_by ts f.1) (named_in g.value) (Some (value_in w)) →
    AreFittedFields (fields_by ts (take (i + 1) fs)) (fields_of (take (i + 1) gs)) (Some (values_in next))
fields_step ts fs gs i f g ws next w below at within here pushed name so_far fit =
    let declared : take (i + 1) fs ≡ take i fs ++ f ∷ [] = take_more fs i f below ∙ ap (λ x. take i fs ++ x ∷ []) (sym at) in
    let given : take (i + 1) gs ≡ take i gs ++ g ∷ [] = take_more gs i g within ∙ ap (λ x. take i gs ++ x ∷ []) (sym here) in
    rw (declared, given, pushed)
    (fields_more ts (take i fs) (take i gs) f g so_far.0 name fit.0, same_fields_more ts (take i fs) (take i gs) ws f g w so_far.1 name fit.1)

-- fields that are all fitted
pub fields_end : (ts : List Program.DataType) (fs : List Entry) (gs : List NamedField) (i : ℕ) (ws : List Value) → length gs ≡ length fs → i ≡ length gs →
    AreFittedFields (fields_by ts (take i fs)) (fields_of (take i gs)) (Some (values_in ws)) → AreFittedFields (fields_by ts fs) (fields_of gs) (Some (values_in ws))
fields_end ts fs gs i ws count end so_far =
    let declared : take i fs ≡ fs = take_all i fs (omega arith) in
    let given : take i gs ≡ gs = take_all i gs (omega arith) in
    subst (λ hs. AreFittedFields (fields_by ts fs) (fields_of hs) (Some (values_in ws))) given
    (subst (λ hs. AreFittedFields (fields_by ts hs) (fields_of (take i gs)) (Some (values_in ws))) declared so_far)

pub count_of_fields : (ts : List Program.DataType) (fs : List Entry) (gs : List NamedField) → AreFieldsOf (fields_by ts fs) (fields_of gs) → length gs ≡ length fs
count_of_fields ts [] [] h = refl
count_of_fields ts [] (g ∷ gs) h = absurd h
count_of_fields ts (f ∷ fs) [] h = absurd h
count_of_fields ts (f ∷ fs) (g ∷ gs) h = ap suc (count_of_fields ts fs gs h.1.1)

-- each field has its name and is of its type
pub field_among : (ts : List Program.DataType) (fs : List Entry) (gs : List NamedField) (i : ℕ) (f : Entry) (g : NamedField) → i < length fs → f ≡ get_or fs i f →
    i < length gs → g ≡ get_or gs i g → AreFieldsOf (fields_by ts fs) (fields_of gs) →
    (string_bytes g.name ≡ string_bytes f.0) × IsValueOf (type_by ts f.1) (named_in g.value)
field_among ts [] gs i f g below at within here h = absurd (omega (arith, below))
field_among ts (y ∷ fs) [] i f g below at within here h = absurd h
field_among ts (y ∷ fs) (x ∷ gs) zero f g below at within here h =
    subst (λ a. (string_bytes g.name ≡ string_bytes a.0) × IsValueOf (type_by ts a.1) (named_in g.value)) (sym at)
    (subst (λ b. (string_bytes b.name ≡ string_bytes y.0) × IsValueOf (type_by ts y.1) (named_in b.value)) (sym here) (h.0, h.1.0))
field_among ts (y ∷ fs) (x ∷ gs) (suc i) f g below at within here h =
    field_among ts fs gs i f g (omega (arith, below)) at (omega (arith, within)) here h.1.1

-- values of parts

parts_of_array : (place n : ℕ) (element : Program.DataType) (vs : Named.Values) (r : Option Values.Values) → AreFittedElements element n vs r →
    IsFitted (Program.Array place n element) (Named.Elements vs) (option_map Values.Parts r)
parts_of_array place n element vs None h = h
parts_of_array place n element vs (Some ws) h = h

parts_of_record : (place : ℕ) (fields : Program.Fields) (vs : Named.NamedValues) (r : Option Values.Values) → AreFittedFields fields vs r →
    IsFitted (Program.Record place fields) (Named.Named vs) (option_map Values.Parts r)
parts_of_record place fields vs None h = h
parts_of_record place fields vs (Some ws) h = h

abbrev Elements : Type 0
Elements = ℕ × Program.DataType

array_fitted : (t : Program.DataType) (n : ℕ) (element : Program.DataType) (vs : Named.Values) (r : Option Values.Values) → Some (n, element) ≡ Declared.elements_of t →
    AreFittedElements element n vs r → IsFitted t (Named.Elements vs) (option_map Values.Parts r)
array_fitted (Program.Simple type) n element vs r e h = absurd cc
array_fitted (Program.Array place size own) n element vs r e h =
    let pair : Elements = (n, element) in
    let other : Elements = (size, own) in
    let same : pair ≡ other = cc in
    subst (λ (p : Elements). IsFitted (Program.Array place p.0 p.1) (Named.Elements vs) (option_map Values.Parts r)) same (parts_of_array place n element vs r h)
array_fitted (Program.Record place fields) n element vs r e h = absurd cc

record_fitted : (t : Program.DataType) (fields : Program.Fields) (vs : Named.NamedValues) (r : Option Values.Values) → Some fields ≡ Declared.fields_of t →
    AreFittedFields fields vs r → IsFitted t (Named.Named vs) (option_map Values.Parts r)
record_fitted (Program.Simple type) fields vs r e h = absurd cc
record_fitted (Program.Array place size element) fields vs r e h = absurd cc
record_fitted (Program.Record place own) fields vs r e h =
    let same : fields ≡ own = cc in
    subst (λ fs. IsFitted (Program.Record place fs) (Named.Named vs) (option_map Values.Parts r)) same (parts_of_record place fields vs r h)

-- a type without elements, or without fields
pub no_array : (t : Program.DataType) (vs : Named.Values) → None ≡ Declared.elements_of t → IsFitted t (Named.Elements vs) None
no_array (Program.Simple type) vs e = λ h. h
no_array (Program.Array place size element) vs e = absurd cc
no_array (Program.Record place fields) vs e = λ h. h

pub no_record : (t : Program.DataType) (vs : Named.NamedValues) → None ≡ Declared.fields_of t → IsFitted t (Named.Named vs) None
no_record (Program.Simple type) vs e = λ h. h
no_record (Program.Array place size element) vs e = λ h. h
no_record (Program.Record place fields) vs e = absurd cc

-- what was fitted, as one value
parts_made : (r : Option (Vec Value Global)) → option_map Values.Parts (option_map (λ (all : Vec Value Global). values_in all.items) r) ≡ option_map (λ (all : Vec Value Global). Values.Parts (values_in all.items)) r
parts_made None = refl
parts_made (Some all) = refl

pub array_made : (t : Program.DataType) (n : ℕ) (element : Program.DataType) (vs : Named.Values) (whole : Named.Value) (r : Option (Vec Value Global)) (made : Option Values.Value) →
    whole ≡ Named.Elements vs → Some (n, element) ≡ Declared.elements_of t → AreFittedElements element n vs (option_map (λ (all : Vec Value Global). values_in all.items) r) →
    made ≡ option_map (λ (all : Vec Value Global). Values.Parts (values_in all.items)) r → IsFitted t whole made
array_made t n element vs whole r made is e fit parts =
    subst (λ w. IsFitted t w made) (sym is)
    (subst (λ o. IsFitted t (Named.Elements vs) o) (parts_made r ∙ sym parts)
    (array_fitted t n element vs (option_map (λ (all : Vec Value Global). values_in all.items) r) e fit))

pub record_made : (t : Program.DataType) (fields : Program.Fields) (vs : Named.NamedValues) (whole : Named.Value) (r : Option (Vec Value Global)) (made : Option Values.Value) →
    whole ≡ Named.Named vs → Some fields ≡ Declared.fields_of t → AreFittedFields fields vs (option_map (λ (all : Vec Value Global). values_in all.items) r) →
    made ≡ option_map (λ (all : Vec Value Global). Values.Parts (values_in all.items)) r → IsFitted t whole made
record_made t fields vs whole r made is e fit parts =
    subst (λ w. IsFitted t w made) (sym is)
    (subst (λ o. IsFitted t (Named.Named vs) o) (parts_made r ∙ sym parts)
    (record_fitted t fields vs (option_map (λ (all : Vec Value Global). values_in all.items) r) e fit))

-- names that are compared
pub names_differ : (a b : List ℕ) → true ≡ not (bytes_eq a b) → b ≡ a → ⊥
names_differ a b e same = at (bytes_eq a b) ((bytes_eq-Decides a b).1 (sym same)) e
  where
    at : (r : Bool) → r ≡ true → true ≡ not r → ⊥
    at true h k = absurd cc
    at false h k = absurd cc

pub names_same : (a b : List ℕ) → false ≡ not (bytes_eq a b) → b ≡ a
names_same a b e = sym ((bytes_eq-Decides a b).0 (at (bytes_eq a b) e))
  where
    at : (r : Bool) → false ≡ not r → r ≡ true
    at true k = refl
    at false k = absurd cc
