-- Texts of parts and of variables, one by one.
use Rattle.std.proofs.Common.{◌≡◌, ◌∙◌, ℕ, ◌+◌, ◌<◌, ◌≤◌, min, List, [], ◌∷◌, ◌++◌, codes, drop, length, get_or, map, Option, None, Some, String, string_bytes, inl, inr, refl, sym, ap, subst, arith, add-one, drop-cons, append_assoc, append-nil}
use Rattle.std.proofs.lemmas.List.{drop_all, length-map}
use Rattle.std.proofs.lemmas.Bool.{cases_lt}
use Rattle.std.proofs.Math.ListN.{get_or-map}
use Rattle.std.specs.declared.alloc.Global.{Global}
use Rattle.ob_typing.specs.Program as Program
use Rattle.ob_typing.specs.Scopes.{elements_of, fields_of}
use Rattle.ob_checked.specs.declared.types.DataType.{DataType}
use Rattle.ob_checked.specs.declared.program.Variable.{Variable}
use Rattle.ob_checked.specs.Types.{Entry as Entries, fields_by, type_by}
use Rattle.ob_checked.specs.View.{variable_of}
use Rattle.ob_meaning.specs.ByPositionStore.{Activation, Held, Holds, value_held}
use Rattle.ob_meaning.specs.ByPositionValue.{Values, Parts, no_part}
use Rattle.ob_store.specs.declared.value.Value.{Value}
use Rattle.ob_store.specs.View.{value_in, values_in, variables_in}
use Rattle.ob_text_record.specs.Values.{array_text, elements_text, fields_text, record_text, separator, value_text}
use Rattle.ob_text_record.specs.Variables.{line_behind, lines_behind}

-- a text, and what comes behind it
pub behind : (text before mark more rest all : List ℕ) → text ≡ before ++ mark → mark ++ rest ≡ more → before ++ more ≡ all → text ++ rest ≡ all
behind text before mark more rest all is parts so_far = ap (λ t. t ++ rest) is ∙ append_assoc before mark rest ∙ ap (λ t. before ++ t) parts ∙ so_far

-- the elements from a position on: the first of them, and those behind it
pub elements_more : (element : Program.DataType) (vs : List Value) (i : ℕ) (v : Value) → i < length vs → v ≡ get_or vs i v →
    elements_text i element (values_in (drop i vs)) ≡ separator i ++ value_text element (value_in v) ++ elements_text (i + 1) element (values_in (drop (i + 1) vs))
elements_more element vs i v below at = rw (drop-cons vs i v, ← at, add-one) refl

pub no_elements : (n i : ℕ) (element : Program.DataType) (vs : List Value) → length vs ≤ i → elements_text n element (values_in (drop i vs)) ≡ []
no_elements n i element vs past = ap (λ ws. elements_text n element (values_in ws)) (drop_all i vs past)

-- one element more
pub element_step : (element : Program.DataType) (vs : List Value) (i : ℕ) (v : Value) (before between text all : List ℕ) → i < length vs → v ≡ get_or vs i v →
    between ≡ before ++ separator i → text ≡ between ++ value_text element (value_in v) →
    before ++ elements_text i element (values_in (drop i vs)) ≡ all →
    text ++ elements_text (i + 1) element (values_in (drop (i + 1) vs)) ≡ all
element_step element vs i v before between text all below at a b so_far =
    let parts = elements_more element vs i v below at in
    behind text before (separator i ++ value_text element (value_in v)) _ _ all
    (b ∙ ap (λ t. t ++ value_text element (value_in v)) a ∙ append_assoc before (separator i) (value_text element (value_in v)))
    (sym parts) so_far

abbrev Entry : Type 0
Entry = String Global × DataType

-- the same of fields
pub fields_more : (ts : List Program.DataType) (fs : List Entry) (vs : List Value) (i : ℕ) (f : Entry) (v : Value) → i < length fs → f ≡ get_or fs i f →
    i < length vs → v ≡ get_or vs i v →
    fields_text i (fields_by ts (drop i fs)) (values_in (drop i vs))
    ≡ separator i ++ string_bytes f.0 ++ codes "=" ++ value_text (type_by ts f.1) (value_in v) ++ fields_text (i + 1) (fields_by ts (drop (i + 1) fs)) (values_in (drop (i + 1) vs))
fields_more ts fs vs i f v below at within here = rw (drop-cons fs i f, ← at, drop-cons vs i v, ← here, add-one) refl

appended : (before a b c d t0 t1 t2 t3 : List ℕ) → t0 ≡ before ++ a → t1 ≡ t0 ++ b → t2 ≡ t1 ++ c → t3 ≡ t2 ++ d → t3 ≡ before ++ (a ++ b ++ c ++ d)
appended before a b c d t0 t1 t2 t3 w x y z =
    rw (z, y, x, w)
    (ap (λ t. t ++ d) (ap (λ t. t ++ c) (append_assoc before a b) ∙ append_assoc before (a ++ b) c) ∙ append_assoc before (a ++ b ++ c) d)

-- one field more
pub field_step : (ts : List Program.DataType) (fs : List Entry) (vs : List Value) (i : ℕ) (f : Entry) (v : Value) (before t0 t1 t2 t3 all : List ℕ) →
    i < length fs → f ≡ get_or fs i f → i < length vs → v ≡ get_or vs i v →
    t0 ≡ before ++ separator i → t1 ≡ t0 ++ string_bytes f.0 → t2 ≡ t1 ++ codes "=" → t3 ≡ t2 ++ value_text (type_by ts f.1) (value_in v) →
    before ++ fields_text i (fields_by ts (drop i fs)) (values_in (drop i vs)) ≡ all →
    t3 ++ fields_text (i + 1) (fields_by ts (drop (i + 1) fs)) (values_in (drop (i + 1) vs)) ≡ all
field_step ts fs vs i f v before t0 t1 t2 t3 all below at within here w x y z so_far =
    let parts = fields_more ts fs vs i f v below at within here in
    behind t3 before (separator i ++ string_bytes f.0 ++ codes "=" ++ value_text (type_by ts f.1) (value_in v)) _ _ all
    (appended before _ _ _ _ t0 t1 t2 t3 w x y z)
    (sym parts) so_far

no_fields : (n : ℕ) (vs : Values) → fields_text n Program.no_field vs ≡ []
no_fields n Values.no_part = refl
no_fields n (Values.part v vs) = refl

-- where fields or values end, the text does
pub fields_end : (ts : List Program.DataType) (fs : List Entry) (vs : List Value) (n i : ℕ) → length fs ≤ i → fields_text n (fields_by ts (drop i fs)) (values_in (drop i vs)) ≡ []
fields_end ts fs vs n i past = ap (λ gs. fields_text n (fields_by ts gs) (values_in (drop i vs))) (drop_all i fs past) ∙ no_fields n (values_in (drop i vs))

no_values : (n : ℕ) (fields : Program.Fields) → fields_text n fields no_part ≡ []
no_values n Program.no_field = refl
no_values n (Program.field name type rest) = refl

pub values_end : (ts : List Program.DataType) (fs : List Entry) (vs : List Value) (n i : ℕ) → length vs ≤ i → fields_text n (fields_by ts (drop i fs)) (values_in (drop i vs)) ≡ []
values_end ts fs vs n i past = ap (λ ws. fields_text n (fields_by ts (drop i fs)) (values_in ws)) (drop_all i vs past) ∙ no_values n (fields_by ts (drop i fs))

abbrev element_or : Program.DataType → Option (ℕ × Program.DataType) → Program.DataType
element_or d None = d
element_or d (Some p) = p.1

abbrev fields_or : Program.Fields → Option Program.Fields → Program.Fields
fields_or d None = d
fields_or d (Some fs) = fs

-- the text of parts, by their type
pub text_of_array : (t : Program.DataType) (n : ℕ) (element : Program.DataType) (vs : Values) → Some (n, element) ≡ elements_of t → value_text t (Parts vs) ≡ array_text element vs
text_of_array (Program.Simple type) n element vs e = absurd cc
text_of_array (Program.Array place size own) n element vs e =
    let same : element ≡ own = ap (element_or own) e in
    ap (λ u. array_text u vs) (sym same)
text_of_array (Program.Record place fields) n element vs e = absurd cc

pub text_of_record : (t : Program.DataType) (fields : Program.Fields) (vs : Values) → Some fields ≡ fields_of t → value_text t (Parts vs) ≡ record_text fields vs
text_of_record (Program.Simple type) fields vs e = absurd cc
text_of_record (Program.Array place size own) fields vs e = absurd cc
text_of_record (Program.Record place own) fields vs e =
    let same : fields ≡ own = ap (fields_or own) e in
    ap (λ fs. record_text fs vs) (sym same)

pub text_of_none : (t : Program.DataType) (vs : Values) → None ≡ elements_of t → None ≡ fields_of t → value_text t (Parts vs) ≡ []
text_of_none (Program.Simple type) vs e f = refl
text_of_none (Program.Array place size own) vs e f = absurd cc
text_of_none (Program.Record place own) vs e f = absurd cc

-- the lines of variables from a position on
pub lines_more : (mark : List ℕ) (variables : List Program.Variable) (state : Activation) (i : ℕ) (v : Program.Variable) (h : Held) → i < length variables → v ≡ get_or variables i v →
    i < length state → h ≡ get_or state i h →
    lines_behind mark (drop i variables) (drop i state) ≡ line_behind mark v (value_held h) ++ lines_behind mark (drop (i + 1) variables) (drop (i + 1) state)
lines_more mark variables state i v h below at within here = rw (drop-cons variables i v, ← at, drop-cons state i h, ← here, add-one) refl

no_values_left : (mark : List ℕ) (variables : List Program.Variable) → lines_behind mark variables [] ≡ []
no_values_left mark [] = refl
no_values_left mark (v ∷ variables) = refl

pub lines_end : (mark : List ℕ) (variables : List Program.Variable) (state : Activation) (i : ℕ) → i ≡ min (length variables) (length state) → lines_behind mark (drop i variables) (drop i state) ≡ []
lines_end mark variables state i e =
    elim (cases_lt i (length variables)) [
      | inl less ↦
          let none : drop i state ≡ [] = drop_all i state (omega arith) in
          ap (lines_behind mark (drop i variables)) none ∙ no_values_left mark (drop i variables)
      | inr past ↦ ap (λ vs. lines_behind mark vs (drop i state)) (drop_all i variables past)
    ]

-- the same of the variables of a program, with values of their own
module _ (mark : List ℕ) (types : List Entries) (variables : List Variable) (values : List Value) (state : Activation) (own : variables_in values ≡ state) where
  pub state_more : (text before all : List ℕ) (n : ℕ) (v : Variable) (w : Value) → n < length variables → v ≡ get_or variables n v → n < length values → w ≡ get_or values n w →
      text ≡ before ++ line_behind mark (variable_of types v) (value_in w) →
      before ++ lines_behind mark (drop n (map (variable_of types) variables)) (drop n state) ≡ all →
      text ++ lines_behind mark (drop (n + 1) (map (variable_of types) variables)) (drop (n + 1) state) ≡ all
  state_more text before all n v w below at within here is so_far =
      let first : variable_of types v ≡ get_or (map (variable_of types) variables) n (variable_of types v) = ap (variable_of types) at ∙ sym (get_or-map (variable_of types) variables n v) in
      let second : Holds (value_in w) ≡ get_or (variables_in values) n (Holds (value_in w)) = ap (λ u. Holds (value_in u)) here ∙ sym (get_or-map (λ u. Holds (value_in u)) values n w) in
      let parts = lines_more mark (map (variable_of types) variables) (variables_in values) n (variable_of types v) (Holds (value_in w)) (rw length-map below) first (rw length-map within) second in
      behind text before _ _ _ all is (sym (subst (λ s. lines_behind mark (drop n (map (variable_of types) variables)) (drop n s) ≡ line_behind mark (variable_of types v) (value_in w) ++ lines_behind mark (drop (n + 1) (map (variable_of types) variables)) (drop (n + 1) s)) own parts)) so_far

  pub state_end : (text all : List ℕ) (n : ℕ) → n ≡ min (length variables) (length values) →
      text ++ lines_behind mark (drop n (map (variable_of types) variables)) (drop n state) ≡ all → text ≡ all
  state_end text all n e so_far =
      let counts : length values ≡ length state = sym (length-map values (λ v. Holds (value_in v))) ∙ ap length own in
      let none = lines_end mark (map (variable_of types) variables) state n (rw (length-map, ← counts) e) in
      sym (append-nil text) ∙ ap (λ t. text ++ t) (sym none) ∙ so_far
