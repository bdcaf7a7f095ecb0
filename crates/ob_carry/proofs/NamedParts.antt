-- Elements and fields that are named one by one.
use Rattle.std.proofs.Common.{◌≡◌, ◌∙◌, ℕ, zero, suc, ◌+◌, ◌<◌, ◌≤◌, List, [], ◌∷◌, ◌++◌, length, get_or, take, Some, String, string_bytes, refl, ap, ap₂, sym, subst, arith}
use Rattle.std.proofs.lemmas.List.{take_all, take_more}
use Rattle.std.specs.declared.alloc.Global.{Global}
use Rattle.ob_typing.specs.Program as Program
use Rattle.ob_typing.specs.Scopes as Declared
use Rattle.ob_checked.specs.declared.types.DataType.{DataType}
use Rattle.ob_checked.specs.Types.{fields_by, type_by}
use Rattle.ob_store.specs.declared.value.Value.{Value}
use Rattle.ob_store.specs.View.{value_in, values_in}
use Rattle.ob_meaning.specs.Same.{SameFields, SameValue}
use Rattle.ob_meaning.specs.ByNameValue as Named
use Rattle.ob_meaning.specs.ByPositionValue as Values
use Rattle.ob_carry.specs.declared.fields_by_name.NamedField.{NamedField}
use Rattle.ob_carry.specs.declared.fields_by_name.NamedValue.{NamedValue}
use Rattle.ob_carry.specs.Values.{IsValueOf}
use Rattle.ob_carry.specs.View.{elements_of, fields_of, named_in}
use Rattle.ob_carry.specs.Names.{AreFieldNamesOf, AreNamesOf, IsNameOf}

-- elements, each of which is named

abbrev pub AllNamed : Program.DataType → List NamedValue → List Value → Type 0
AllNamed t [] [] = Unit {0}
AllNamed t [] (w ∷ ws) = ⊥
AllNamed t (v ∷ vs) [] = ⊥
AllNamed t (v ∷ vs) (w ∷ ws) = IsNameOf t (named_in v) (value_in w) × AllNamed t vs ws

named_more : (t : Program.DataType) (vs : List NamedValue) (ws : List Value) (v : NamedValue) (w : Value) → AllNamed t vs ws → IsNameOf t (named_in v) (value_in w) →
    AllNamed t (vs ++ v ∷ []) (ws ++ w ∷ [])
named_more t [] [] v w h is = (is, tt)
named_more t [] (x ∷ ws) v w h is = absurd h
named_more t (u ∷ vs) [] v w h is = absurd h
named_more t (u ∷ vs) (x ∷ ws) v w h is = (h.0, named_more t vs ws v w h.1 is)

pub named_step : (t : Program.DataType) (vs next : List NamedValue) (parts : List Value) (i : ℕ) (v : NamedValue) (w : Value) → i < length parts → w ≡ get_or parts i w →
    next ≡ vs ++ v ∷ [] → AllNamed t vs (take i parts) → IsNameOf t (named_in v) (value_in w) → AllNamed t next (take (i + 1) parts)
named_step t vs next parts i v w below at pushed so_far is =
    let taken : take (i + 1) parts ≡ take i parts ++ w ∷ [] = take_more parts i w below ∙ ap (λ x. take i parts ++ x ∷ []) (sym at) in
    rw (taken, pushed) (named_more t vs (take i parts) v w so_far is)

all_named : (t : Program.DataType) (vs : List NamedValue) (ws : List Value) → AllNamed t vs ws → AreNamesOf t (elements_of vs) (values_in ws)
all_named t [] [] h zero Named.no_value same = (refl, tt)
all_named t [] [] h zero (Named.value u us) same = absurd same
all_named t [] [] h (suc n) Named.no_value same = absurd same
all_named t [] [] h (suc n) (Named.value u us) same = absurd same
all_named t [] (w ∷ ws) h n us same = absurd h
all_named t (v ∷ vs) [] h n us same = absurd h
all_named t (v ∷ vs) (w ∷ ws) h zero Named.no_value same = absurd same
all_named t (v ∷ vs) (w ∷ ws) h zero (Named.value u us) same = absurd same
all_named t (v ∷ vs) (w ∷ ws) h (suc n) Named.no_value same = absurd same
all_named t (v ∷ vs) (w ∷ ws) h (suc n) (Named.value u us) same =
    let first = h.0 u same.0 in
    let rest = all_named t vs ws h.1 n us same.1 in
    (ap₂ Named.value first.0 rest.0, (first.1, rest.1))

pub named_end : (t : Program.DataType) (vs : List NamedValue) (parts : List Value) (i : ℕ) → length parts ≤ i → AllNamed t vs (take i parts) →
    AreNamesOf t (elements_of vs) (values_in parts)
named_end t vs parts i end h =
    let all : take i parts ≡ parts = take_all i parts (omega (arith, end)) in
    all_named t vs parts (subst (λ ps. AllNamed t vs ps) all h)

-- fields

abbrev Entry : Type 0
Entry = String Global × DataType

abbrev pub AllFields : List Program.DataType → List Entry → List NamedField → List Value → Type 0
AllFields ts [] [] [] = Unit {0}
AllFields ts (f ∷ fs) (g ∷ gs) (w ∷ ws) =
    (string_bytes g.name ≡ string_bytes f.0) × (IsNameOf (type_by ts f.1) (named_in g.value) (value_in w) × AllFields ts fs gs ws)
AllFields ts fs gs ws = ⊥

fields_more : (ts : List Program.DataType) (fs : List Entry) (gs : List NamedField) (ws : List Value) (f : Entry) (g : NamedField) (w : Value) → AllFields ts fs gs ws →
    string_bytes g.name ≡ string_bytes f.0 → IsNameOf (type_by ts f.1) (named_in g.value) (value_in w) → AllFields ts (fs ++ f ∷ []) (gs ++ g ∷ []) (ws ++ w ∷ [])
fields_more ts [] [] [] f g w h name is = (name, (is, tt))
fields_more ts [] [] (z ∷ ws) f g w h name is = absurd h
fields_more ts [] (y ∷ gs) ws f g w h name is = absurd h
fields_more ts (x ∷ fs) [] ws f g w h name is = absurd h
fields_more ts (x ∷ fs) (y ∷ gs) [] f g w h name is = absurd h
fields_more ts (x ∷ fs) (y ∷ gs) (z ∷ ws) f g w h name is = (h.0, (h.1.0, fields_more ts fs gs ws f g w h.1.1 name is))

pub fields_step : (ts : List Program.DataType) (fs : List Entry) (gs next : List NamedField) (parts : List Value) (i : ℕ) (f : Entry) (g : NamedField) (w : Value) →
    i < length fs → f ≡ get_or fs i f → i < length parts → w ≡ get_or parts i w → next ≡ gs ++ g ∷ [] → AllFields ts (take i fs) gs (take i parts) →
    string_bytes g.name ≡ string_bytes f.0 → IsNameOf (type_by ts f.1) (named_in g.value) (value_in w) → AllFields ts (take (i + 1) fs) next (take (i + 1) parts)
fields_step ts fs gs next parts i f g w below at within here pushed so_far name is =
    let declared : take (i + 1) fs ≡ take i fs ++ f ∷ [] = take_more fs i f below ∙ ap (λ x. take i fs ++ x ∷ []) (sym at) in
    let taken : take (i + 1) parts ≡ take i parts ++ w ∷ [] = take_more parts i w within ∙ ap (λ x. take i parts ++ x ∷ []) (sym here) in
    rw (declared, taken, pushed) (fields_more ts (take i fs) gs (take i parts) f g w so_far name is)

all_fields : (ts : List Program.DataType) (fs : List Entry) (gs : List NamedField) (ws : List Value) → AllFields ts fs gs ws → AreFieldNamesOf (fields_by ts fs) (fields_of gs) (values_in ws)
all_fields ts [] [] [] h Named.no_named same = (refl, tt)
all_fields ts [] [] [] h (Named.named name u us) same = absurd same
all_fields ts [] [] (w ∷ ws) h us same = absurd h
all_fields ts [] (g ∷ gs) ws h us same = absurd h
all_fields ts (f ∷ fs) [] ws h us same = absurd h
all_fields ts (f ∷ fs) (g ∷ gs) [] h us same = absurd h
all_fields ts (f ∷ fs) (g ∷ gs) (w ∷ ws) h Named.no_named same = absurd same
all_fields ts (f ∷ fs) (g ∷ gs) (w ∷ ws) h (Named.named name u us) same =
    let first = h.1.0 u same.1.0 in
    let rest = all_fields ts fs gs ws h.1.1 us same.1.1 in
    let named : name ≡ string_bytes g.name = same.0 ∙ sym h.0 in
    (one name (string_bytes g.name) u (named_in g.value) us (fields_of gs) named first.0 rest.0, (h.0, (first.1, rest.1)))
  where
    one : (a b : List ℕ) (c d : Named.Value) (e f : Named.NamedValues) → a ≡ b → c ≡ d → e ≡ f → Named.named a c e ≡ Named.named b d f
    one a b c d e f x y z = rw (x, y, z) refl

pub fields_end : (ts : List Program.DataType) (fs : List Entry) (gs : List NamedField) (parts : List Value) (i : ℕ) → length parts ≤ i → length parts ≡ length fs →
    AllFields ts (take i fs) gs (take i parts) → AreFieldNamesOf (fields_by ts fs) (fields_of gs) (values_in parts)
fields_end ts fs gs parts i end count h =
    let all : take i parts ≡ parts = take_all i parts (omega (arith, end)) in
    let declared : take i fs ≡ fs = take_all i fs (omega (arith, end, count)) in
    all_fields ts fs gs parts
    (subst (λ ps. AllFields ts fs gs ps) all (subst (λ ds. AllFields ts ds gs (take i parts)) declared h))

-- there are as many parts as fields
count_of_fields : (ts : List Program.DataType) (fs : List Entry) (ws : List Value) (us : Named.NamedValues) → SameFields (fields_by ts fs) us (values_in ws) → length ws ≡ length fs
count_of_fields ts [] [] us h = refl
count_of_fields ts [] (w ∷ ws) Named.no_named h = absurd h
count_of_fields ts [] (w ∷ ws) (Named.named name u us) h = absurd h
count_of_fields ts (f ∷ fs) ws Named.no_named h = absurd h
count_of_fields ts (f ∷ fs) [] (Named.named name u us) h = absurd h
count_of_fields ts (f ∷ fs) (w ∷ ws) (Named.named name u us) h = ap suc (count_of_fields ts fs ws us h.1.1)

pub no_fields : (ts : List Program.DataType) (fs : List Entry) (gs : List NamedField) (parts : List Value) → (length parts ≡ length fs → ⊥) →
    AreFieldNamesOf (fields_by ts fs) (fields_of gs) (values_in parts)
no_fields ts fs gs parts differ us same = absurd (differ (count_of_fields ts fs parts us same))

-- values of parts

abbrev Elements : Type 0
Elements = ℕ × Program.DataType

array_named : (t : Program.DataType) (n : ℕ) (element : Program.DataType) (vs : Named.Values) (ws : Values.Values) → Some (n, element) ≡ Declared.elements_of t →
    AreNamesOf element vs ws → IsNameOf t (Named.Elements vs) (Values.Parts ws)
array_named (Program.Simple type) n element vs ws e h u same = absurd cc
array_named (Program.Array place size own) n element vs ws e h u same =
    let pair : Elements = (n, element) in
    let other : Elements = (size, own) in
    let is : pair ≡ other = cc in
    at u same (subst (λ (p : Elements). AreNamesOf p.1 vs ws) is h)
  where
    at : (u : Named.Value) → SameValue (Program.Array place size own) u (Values.Parts ws) → AreNamesOf own vs ws →
        (u ≡ Named.Elements vs) × IsValueOf (Program.Array place size own) (Named.Elements vs)
    at (Named.Single s) same h = absurd same
    at (Named.Elements us) same h = let all = h size us same in (ap Named.Elements all.0, all.1)
    at (Named.Named us) same h = absurd same
array_named (Program.Record place fields) n element vs ws e h u same = absurd cc

record_named : (t : Program.DataType) (fields : Program.Fields) (vs : Named.NamedValues) (ws : Values.Values) → Some fields ≡ Declared.fields_of t →
    AreFieldNamesOf fields vs ws → IsNameOf t (Named.Named vs) (Values.Parts ws)
record_named (Program.Simple type) fields vs ws e h u same = absurd cc
record_named (Program.Array place size own) fields vs ws e h u same = absurd cc
record_named (Program.Record place own) fields vs ws e h u same =
    let is : fields ≡ own = cc in
    at u same (subst (λ fs. AreFieldNamesOf fs vs ws) is h)
  where
    at : (u : Named.Value) → SameValue (Program.Record place own) u (Values.Parts ws) → AreFieldNamesOf own vs ws →
        (u ≡ Named.Named vs) × IsValueOf (Program.Record place own) (Named.Named vs)
    at (Named.Single s) same h = absurd same
    at (Named.Elements us) same h = absurd same
    at (Named.Named us) same h = let all = h us same in (ap Named.Named all.0, all.1)

pub array_made : (t : Program.DataType) (n : ℕ) (element : Program.DataType) (vs : Named.Values) (ws : Values.Values) (v : Named.Value) (w : Values.Value) →
    v ≡ Named.Elements vs → w ≡ Values.Parts ws → Some (n, element) ≡ Declared.elements_of t → AreNamesOf element vs ws → IsNameOf t v w
array_made t n element vs ws v w is parts e h = rw (is, parts) (array_named t n element vs ws e h)

pub record_made : (t : Program.DataType) (fields : Program.Fields) (vs : Named.NamedValues) (ws : Values.Values) (v : Named.Value) (w : Values.Value) →
    v ≡ Named.Named vs → w ≡ Values.Parts ws → Some fields ≡ Declared.fields_of t → AreFieldNamesOf fields vs ws → IsNameOf t v w
record_made t fields vs ws v w is parts e h = rw (is, parts) (record_named t fields vs ws e h)
