-- Values and parts of values by position and by name.
use Rattle.std.proofs.Common.{◌≡◌, refl, ap, sym, subst, ◌∙◌, arith, ℕ, zero, suc, ◌<◌, Bool, true, false, List, [], ◌∷◌, ◌++◌, bytes_eq, if◌then◌else◌}
use Rattle.ob_typing.specs.Program.{Name, DataType, Simple, Array, Record, Fields, no_field, field}
use Rattle.ob_meaning.specs.ByNameValue as Named
use Rattle.ob_meaning.specs.ByPositionValue.{Value, Values, Single, Parts, no_part, part, part_at, inside, selected, with_part, replaced}
use Rattle.ob_meaning.specs.Resolved.{IsFieldAt}
use Rattle.ob_meaning.specs.Same.{SameElements, SameArray, SameRecord, SameValue, SameFields, SameStep, SamePath}

pub if_true : {A : Type 0} (b : Bool) (x y : A) → b ≡ true → (if b then x else y) ≡ x
if_true true x y h = refl
if_true false x y h = absurd cc

pub if_false : {A : Type 0} (b : Bool) (x y : A) → b ≡ false → (if b then x else y) ≡ y
if_false true x y h = absurd cc
if_false false x y h = refl

-- elements

elements_at : (R : Named.Value → Value → Type 0) (n : ℕ) (vs : Named.Values) (ws : Values) (i : ℕ) → SameElements R n vs ws → i < n →
    R (Named.element_at vs i) (part_at ws i)
elements_at R zero vs ws i h b = absurd (omega (arith, b))
elements_at R (suc n) Named.no_value ws i h b = absurd h
elements_at R (suc n) (Named.value v vs) no_part i h b = absurd h
elements_at R (suc n) (Named.value v vs) (part w ws) zero h b = h.0
elements_at R (suc n) (Named.value v vs) (part w ws) (suc i) h b = elements_at R n vs ws i h.1 (omega (arith, b))

elements_with : (R : Named.Value → Value → Type 0) (n : ℕ) (vs : Named.Values) (ws : Values) (i : ℕ) (a : Named.Value) (b : Value) →
    SameElements R n vs ws → R a b → SameElements R n (Named.with_element vs i a) (with_part ws i b)
elements_with R zero Named.no_value no_part i a b h r = tt
elements_with R zero (Named.value v vs) ws i a b h r = absurd h
elements_with R zero Named.no_value (part w ws) i a b h r = absurd h
elements_with R (suc n) Named.no_value ws i a b h r = absurd h
elements_with R (suc n) (Named.value v vs) no_part i a b h r = absurd h
elements_with R (suc n) (Named.value v vs) (part w ws) zero a b h r = (r, h.1)
elements_with R (suc n) (Named.value v vs) (part w ws) (suc i) a b h r = (h.0, elements_with R n vs ws i a b h.1 r)

-- fields

fields_at : (fs : Fields) (vs : Named.NamedValues) (ws : Values) (name : Name) (i : ℕ) (t : DataType) → SameFields fs vs ws → IsFieldAt fs name i t →
    SameValue t (Named.field_named vs name) (part_at ws i)
fields_at no_field vs ws name i t h f = absurd f
fields_at (field n type fs) Named.no_named ws name i t h f = absurd h
fields_at (field n type fs) (Named.named m v vs) no_part name i t h f = absurd h
fields_at (field n type fs) (Named.named m v vs) (part w ws) name zero t h f =
    subst (λ x. SameValue t x w) (sym (if_true (bytes_eq m name) v (Named.field_named vs name) (ap (λ x. bytes_eq x name) h.0 ∙ f.0)))
    (subst (λ u. SameValue u v w) f.1 h.1.0)
fields_at (field n type fs) (Named.named m v vs) (part w ws) name (suc i) t h f =
    subst (λ x. SameValue t x (part_at ws i)) (sym (if_false (bytes_eq m name) v (Named.field_named vs name) (ap (λ x. bytes_eq x name) h.0 ∙ f.0)))
    (fields_at fs vs ws name i t h.1.1 f.1)

fields_with : (fs : Fields) (vs : Named.NamedValues) (ws : Values) (name : Name) (i : ℕ) (t : DataType) (a : Named.Value) (b : Value) →
    SameFields fs vs ws → IsFieldAt fs name i t → SameValue t a b → SameFields fs (Named.with_field vs name a) (with_part ws i b)
fields_with no_field vs ws name i t a b h f r = absurd f
fields_with (field n type fs) Named.no_named ws name i t a b h f r = absurd h
fields_with (field n type fs) (Named.named m v vs) no_part name i t a b h f r = absurd h
fields_with (field n type fs) (Named.named m v vs) (part w ws) name zero t a b h f r =
    subst (λ x. SameFields (field n type fs) x (part b ws))
    (sym (if_true (bytes_eq m name) (Named.named m a vs) (Named.named m v (Named.with_field vs name a)) (ap (λ x. bytes_eq x name) h.0 ∙ f.0)))
    (h.0, (subst (λ u. SameValue u a b) (sym f.1) r, h.1.1))
fields_with (field n type fs) (Named.named m v vs) (part w ws) name (suc i) t a b h f r =
    subst (λ x. SameFields (field n type fs) x (part w (with_part ws i b)))
    (sym (if_false (bytes_eq m name) (Named.named m a vs) (Named.named m v (Named.with_field vs name a)) (ap (λ x. bytes_eq x name) h.0 ∙ f.0)))
    (h.0, (h.1.0, fields_with fs vs ws name i t a b h.1.1 f.1 r))

-- one step into a value

abbrev with_one : Value → ℕ → Value → Value
with_one (Parts ws) j b = Parts (with_part ws j b)
with_one (Single s) j b = Single s

replaced-cons : (w : Value) (j : ℕ) (path : List ℕ) (y : Value) → replaced w (j ∷ path) y ≡ with_one w j (replaced (inside w j) path y)
replaced-cons (Parts ws) j path y = refl
replaced-cons (Single s) j path y = refl

array_step : (R : Named.Value → Value → Type 0) (n : ℕ) (v : Named.Value) (w : Value) (i j : ℕ) → SameArray R n v w → i ≡ j → j < n →
    R (Named.part v (Named.Index i)) (inside w j)
array_step R n (Named.Elements vs) (Parts ws) i j h e b = subst (λ k. R (Named.element_at vs k) (part_at ws j)) (sym e) (elements_at R n vs ws j h b)
array_step R n (Named.Elements vs) (Single s) i j h e b = absurd h
array_step R n (Named.Single s) w i j h e b = absurd h
array_step R n (Named.Named vs) w i j h e b = absurd h

record_step : (fs : Fields) (v : Named.Value) (w : Value) (name : Name) (j : ℕ) (r : DataType) → SameRecord (SameFields fs) v w → IsFieldAt fs name j r →
    SameValue r (Named.part v (Named.Field name)) (inside w j)
record_step fs (Named.Named vs) (Parts ws) name j r h f = fields_at fs vs ws name j r h f
record_step fs (Named.Named vs) (Single s) name j r h f = absurd h
record_step fs (Named.Single s) w name j r h f = absurd h
record_step fs (Named.Elements vs) w name j r h f = absurd h

part_same : (t : DataType) (v : Named.Value) (w : Value) (s : Named.SelectorValue) (j : ℕ) (r : DataType) → SameValue t v w → SameStep t s j r →
    SameValue r (Named.part v s) (inside w j)
part_same (Simple t) v w s j r h e = absurd e
part_same (Array place n element) v w (Named.Index i) j r h e =
    subst (λ u. SameValue u (Named.part v (Named.Index i)) (inside w j)) e.1.1 (array_step (SameValue element) n v w i j h e.0 e.1.0)
part_same (Array place n element) v w (Named.Field name) j r h e = absurd e
part_same (Record place fs) v w (Named.Field name) j r h e = record_step fs v w name j r h e
part_same (Record place fs) v w (Named.Index i) j r h e = absurd e

array_with : (R : Named.Value → Value → Type 0) (n : ℕ) (v : Named.Value) (w : Value) (i j : ℕ) (a : Named.Value) (b : Value) → SameArray R n v w → i ≡ j → R a b →
    SameArray R n (Named.with_part v (Named.Index i) a) (with_one w j b)
array_with R n (Named.Elements vs) (Parts ws) i j a b h e r = subst (λ k. SameElements R n (Named.with_element vs k a) (with_part ws j b)) (sym e) (elements_with R n vs ws j a b h r)
array_with R n (Named.Elements vs) (Single s) i j a b h e r = absurd h
array_with R n (Named.Single s) w i j a b h e r = absurd h
array_with R n (Named.Named vs) w i j a b h e r = absurd h

record_with : (fs : Fields) (v : Named.Value) (w : Value) (name : Name) (j : ℕ) (r : DataType) (a : Named.Value) (b : Value) →
    SameRecord (SameFields fs) v w → IsFieldAt fs name j r → SameValue r a b → SameRecord (SameFields fs) (Named.with_part v (Named.Field name) a) (with_one w j b)
record_with fs (Named.Named vs) (Parts ws) name j r a b h f k = fields_with fs vs ws name j r a b h f k
record_with fs (Named.Named vs) (Single s) name j r a b h f k = absurd h
record_with fs (Named.Single s) w name j r a b h f k = absurd h
record_with fs (Named.Elements vs) w name j r a b h f k = absurd h

with_same : (t : DataType) (v : Named.Value) (w : Value) (s : Named.SelectorValue) (j : ℕ) (r : DataType) (a : Named.Value) (b : Value) →
    SameValue t v w → SameStep t s j r → SameValue r a b → SameValue t (Named.with_part v s a) (with_one w j b)
with_same (Simple t) v w s j r a b h e k = absurd e
with_same (Array place n element) v w (Named.Index i) j r a b h e k =
    array_with (SameValue element) n v w i j a b h e.0 (subst (λ u. SameValue u a b) (sym e.1.1) k)
with_same (Array place n element) v w (Named.Field name) j r a b h e k = absurd e
with_same (Record place fs) v w (Named.Field name) j r a b h e k = record_with fs v w name j r a b h e k
with_same (Record place fs) v w (Named.Index i) j r a b h e k = absurd e

-- a path into a value

pub selected_same : (t u : DataType) (v : Named.Value) (w : Value) (selectors : List Named.SelectorValue) (path : List ℕ) →
    SameValue t v w → SamePath t selectors path u → SameValue u (Named.selected v selectors) (selected w path)
selected_same t u v w [] [] h p = subst (λ x. SameValue x v w) p h
selected_same t u v w [] (j ∷ path) h p = absurd p
selected_same t u v w (s ∷ selectors) [] h p = absurd p
selected_same t u v w (s ∷ selectors) (j ∷ path) h (r, (step, rest)) =
    selected_same r u (Named.part v s) (inside w j) selectors path (part_same t v w s j r h step) rest

pub replaced_same : (t u : DataType) (v : Named.Value) (w : Value) (selectors : List Named.SelectorValue) (path : List ℕ) (x : Named.Value) (y : Value) →
    SameValue t v w → SamePath t selectors path u → SameValue u x y → SameValue t (Named.replaced v selectors x) (replaced w path y)
replaced_same t u v w [] [] x y h p k = subst (λ z. SameValue z x y) (sym p) k
replaced_same t u v w [] (j ∷ path) x y h p k = absurd p
replaced_same t u v w (s ∷ selectors) [] x y h p k = absurd p
replaced_same t u v w (s ∷ selectors) (j ∷ path) x y h (r, (step, rest)) k =
    subst (λ z. SameValue t (Named.with_part v s (Named.replaced (Named.part v s) selectors x)) z) (sym (replaced-cons w j path y))
    (with_same t v w s j r _ _ h step
    (replaced_same r u (Named.part v s) (inside w j) selectors path x y (part_same t v w s j r h step) rest k))

pub path_both : (t u z : DataType) (selectors more : List Named.SelectorValue) (path further : List ℕ) →
    SamePath t selectors path u → SamePath u more further z → SamePath t (selectors ++ more) (path ++ further) z
path_both t u z [] more [] further p q = subst (λ x. SamePath x more further z) (sym p) q
path_both t u z [] more (j ∷ path) further p q = absurd p
path_both t u z (s ∷ selectors) more [] further p q = absurd p
path_both t u z (s ∷ selectors) more (j ∷ path) further (r, (step, rest)) q = (r, (step, path_both r u z selectors more path further rest q))
