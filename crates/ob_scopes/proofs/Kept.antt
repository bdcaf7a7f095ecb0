-- What names stand for stays, where the table of types grows.
use Rattle.std.proofs.Common.{◌≡◌, ℕ, ◌≤◌, ◌<◌, arith, Bool, true, false, List, [], ◌∷◌, length, get_or, Some, option_map, String, refl, sym, ap, ◌∙◌, zero, suc, ◌+◌, ◌-◌, ◌++◌, map}
use Rattle.std.specs.List.{remove}
use Rattle.std.specs.Prelude.{◌&&◌, string_bytes, if◌then◌else◌}
use Rattle.std.specs.declared.alloc.Global.{Global}
use Rattle.std.specs.Map.{lookup}
use Rattle.std.proofs.lemmas.Bool.{ltb-true, lt-ltb}
use Rattle.std.specs.BTreeMap.{BTreeMap, get_by_text, is_at}
use Rattle.std.specs.Cmp.Lexicographic.{slice_cmp}
use Rattle.std.specs.Ordering.{nat_cmp}
use Rattle.ob_typing.specs.Program as Programs
use Rattle.ob_typing.specs.Scopes as Declared
use Rattle.ob_typing.specs.Scopes.{Environment}
use Rattle.ob_checked.specs.declared.types.DataType.{DataType}
use Rattle.ob_checked.specs.declared.types.DataType.TheVariants.{Simple, Structured}
use Rattle.ob_checked.specs.declared.program.Parameter.{Parameter}
use Rattle.ob_checked.specs.Types.{Entry, is_below, all_below, Extends}
use Rattle.ob_checked.specs.View.{parameter_of}
use Rattle.ob_scopes.specs.declared.scopes.Object.{Object}
use Rattle.ob_scopes.specs.declared.scopes.Object.TheVariants.{Constant, TypeName, ModuleVariable, LocalVariable, Procedure}
use Rattle.ob_scopes.specs.Objects.{object_of, scope_of, env_behind, known_parameters, known_object, known_names, known_scopes}

pub and_both : (a b : Bool) → a ≡ true → b ≡ true → (a && b) ≡ true
and_both true b h k = k
and_both false b h k = absurd cc

pub and_left : (a b : Bool) → (a && b) ≡ true → a ≡ true
and_left true b h = refl
and_left false b h = absurd cc

pub and_right : (a b : Bool) → (a && b) ≡ true → b ≡ true
and_right true b h = h
and_right false b h = absurd cc

-- a table that went on and on
pub extends_itself : (es : List Entry) → Extends es es
extends_itself es = record { longer = omega arith; same = λ t b. refl }

pub below_more : (n m : ℕ) → n ≤ m → (t : DataType) → is_below n t ≡ true → is_below m t ≡ true
below_more n m h (Simple t) b = refl
below_more n m h (Structured k) b = let l : k < n = ltb-true k n b in let r : k < m = omega (arith, h, l) in lt-ltb k m r

pub extends_further : (es fs gs : List Entry) → Extends es fs → Extends fs gs → Extends es gs
extends_further es fs gs h k = record {
  longer = omega (arith, h.longer, k.longer);
  same = λ t b. k.same t (below_more (length es) (length fs) h.longer t b) ∙ h.same t b;
}

pub all_below_more : (n m : ℕ) → n ≤ m → (fs : List (String Global × DataType)) → all_below n fs ≡ true → all_below m fs ≡ true
all_below_more n m h [] b = refl
all_below_more n m h (f ∷ fs) b =
    and_both (is_below m f.1) (all_below m fs) (below_more n m h f.1 (and_left (is_below n f.1) (all_below n fs) b))
    (all_below_more n m h fs (and_right (is_below n f.1) (all_below n fs) b))

pub parameters_more : (n m : ℕ) → n ≤ m → (ps : List Parameter) → known_parameters n ps ≡ true → known_parameters m ps ≡ true
parameters_more n m h [] b = refl
parameters_more n m h (p ∷ ps) b =
    and_both (is_below m p.data_type) (known_parameters m ps) (below_more n m h p.data_type (and_left (is_below n p.data_type) (known_parameters n ps) b))
    (parameters_more n m h ps (and_right (is_below n p.data_type) (known_parameters n ps) b))

pub object_more : (n m : ℕ) → n ≤ m → (o : Object) → known_object n o ≡ true → known_object m o ≡ true
object_more n m h (Constant value) b = refl
object_more n m h (TypeName t) b = below_more n m h t b
object_more n m h (ModuleVariable position t) b = below_more n m h t b
object_more n m h (LocalVariable level position t) b = below_more n m h t b
object_more n m h (Procedure number parameters) b = parameters_more n m h parameters.items b

pub names_more : {K : Type 0} (n m : ℕ) → n ≤ m → (es : List (K × Object)) → known_names n es ≡ true → known_names m es ≡ true
names_more n m h [] b = refl
names_more n m h (e ∷ es) b =
    and_both (known_object m e.1) (known_names m es) (object_more n m h e.1 (and_left (known_object n e.1) (known_names n es) b))
    (names_more n m h es (and_right (known_object n e.1) (known_names n es) b))

pub scopes_more : {K : Type 0} (n m : ℕ) → n ≤ m → (ss : List (BTreeMap K Object)) → known_scopes n ss ≡ true → known_scopes m ss ≡ true
scopes_more n m h [] b = refl
scopes_more n m h (s ∷ ss) b =
    and_both (known_names m s.entries) (known_scopes m ss) (names_more n m h s.entries (and_left (known_names n s.entries) (known_scopes n ss) b))
    (scopes_more n m h ss (and_right (known_names n s.entries) (known_scopes n ss) b))

module _ (es fs : List Entry) (h : Extends es fs) where
  pub parameters_kept : (ps : List Parameter) → known_parameters (length es) ps ≡ true → map (parameter_of fs) ps ≡ map (parameter_of es) ps
  parameters_kept [] b = refl
  parameters_kept (p ∷ ps) b =
      let first = h.same p.data_type (and_left (is_below (length es) p.data_type) (known_parameters (length es) ps) b) in
      let rest = parameters_kept ps (and_right (is_below (length es) p.data_type) (known_parameters (length es) ps) b) in
      let with : Programs.DataType → Programs.Parameter = λ t. record { name = string_bytes p.name; is_var = p.is_var; type = t } in
      ap (λ t. with t ∷ map (parameter_of fs) ps) first ∙ ap (λ qs. parameter_of es p ∷ qs) rest

  pub object_kept : (o : Object) → known_object (length es) o ≡ true → object_of fs o ≡ object_of es o
  object_kept (Constant value) b = refl
  object_kept (TypeName t) b = ap Declared.TypeName (h.same t b)
  object_kept (ModuleVariable position t) b = ap (Declared.ModuleVariable position) (h.same t b)
  object_kept (LocalVariable level position t) b = ap (Declared.LocalVariable level position) (h.same t b)
  object_kept (Procedure number parameters) b = ap (Declared.ProcedureName number) (parameters_kept parameters.items b)

  looked_kept : {K : Type 0} (test : K → Bool) (xs : List (K × Object)) → known_names (length es) xs ≡ true →
      option_map (object_of fs) (lookup test xs) ≡ option_map (object_of es) (lookup test xs)
  looked_kept test [] b = refl
  looked_kept test (x ∷ xs) b =
      at (test x.0) (object_kept x.1 (and_left (known_object (length es) x.1) (known_names (length es) xs) b))
      (looked_kept test xs (and_right (known_object (length es) x.1) (known_names (length es) xs) b))
    where
      at : (c : Bool) → object_of fs x.1 ≡ object_of es x.1 → option_map (object_of fs) (lookup test xs) ≡ option_map (object_of es) (lookup test xs) →
          option_map (object_of fs) (if c then Some x.1 else lookup test xs) ≡ option_map (object_of es) (if c then Some x.1 else lookup test xs)
      at true first rest = ap Some first
      at false first rest = rest

  pub scope_kept : (s : BTreeMap (String Global) Object) → known_names (length es) s.entries ≡ true → scope_of fs s ≡ scope_of es s
  scope_kept s b = λ i q. looked_kept (is_at (λ k. slice_cmp nat_cmp q (string_bytes k))) s.entries b i

  pub around_kept : (ss : List (BTreeMap (String Global) Object)) → known_scopes (length es) ss ≡ true → (outer : Environment) →
      env_behind fs ss outer ≡ env_behind es ss outer
  around_kept [] b outer = refl
  around_kept (s ∷ ss) b outer =
      ap (λ x. env_behind fs ss (x ∷ outer)) (scope_kept s (and_left (known_names (length es) s.entries) (known_scopes (length es) ss) b))
      ∙ around_kept ss (and_right (known_names (length es) s.entries) (known_scopes (length es) ss) b) (scope_of es s ∷ outer)

  pub env_kept : (own : BTreeMap (String Global) Object) (ss : List (BTreeMap (String Global) Object)) →
      (known_names (length es) own.entries && known_scopes (length es) ss) ≡ true →
      scope_of fs own ∷ env_behind fs ss [] ≡ scope_of es own ∷ env_behind es ss []
  env_kept own ss b =
      let own_kept = scope_kept own (and_left (known_names (length es) own.entries) (known_scopes (length es) ss) b) in
      let rest = around_kept ss (and_right (known_names (length es) own.entries) (known_scopes (length es) ss) b) [] in
      ap (λ (x : Declared.Scope). x ∷ env_behind fs ss []) own_kept ∙ ap (λ (env : Environment). scope_of es own ∷ env) rest

  pub invariant_kept : (own : BTreeMap (String Global) Object) (ss : List (BTreeMap (String Global) Object)) →
      (known_names (length es) own.entries && known_scopes (length es) ss) ≡ true →
      (known_names (length fs) own.entries && known_scopes (length fs) ss) ≡ true
  invariant_kept own ss b =
      and_both (known_names (length fs) own.entries) (known_scopes (length fs) ss)
      (names_more (length es) (length fs) h.longer own.entries (and_left (known_names (length es) own.entries) (known_scopes (length es) ss) b))
      (scopes_more (length es) (length fs) h.longer ss (and_right (known_names (length es) own.entries) (known_scopes (length es) ss) b))

-- what is found in known names is known
pub known_looked : {K : Type 0} (n : ℕ) (test : K → Bool) (xs : List (K × Object)) (o : Object) → known_names n xs ≡ true →
    Some o ≡ lookup test xs → known_object n o ≡ true
known_looked n test [] o b h = absurd cc
known_looked {K = K} n test (x ∷ xs) o b h = at (test x.0) (known_looked n test xs o (and_right (known_object n x.1) (known_names n xs) b)) h
  where
    at : (c : Bool) → (Some o ≡ lookup test xs → known_object n o ≡ true) → Some o ≡ (if c then Some x.1 else lookup test xs) → known_object n o ≡ true
    at true rest h = let is : o ≡ x.1 = cc in ap (known_object n) is ∙ and_left (known_object n x.1) (known_names n xs) b
    at false rest h = rest h

pub known_scope_at : {K : Type 0} (n k : ℕ) (ss : List (BTreeMap K Object)) (s : BTreeMap K Object) → k < length ss → s ≡ get_or ss k s →
    known_scopes n ss ≡ true → known_names n s.entries ≡ true
known_scope_at n k [] s l is b = absurd (omega (arith, l))
known_scope_at n zero (x ∷ ss) s l is b = ap (λ y. known_names n y.entries) is ∙ and_left (known_names n x.entries) (known_scopes n ss) b
known_scope_at n (suc k) (x ∷ ss) s l is b =
    let less : k < length ss = omega (arith, l) in
    known_scope_at n k ss s less is (and_right (known_names n x.entries) (known_scopes n ss) b)

-- one scope more, and one less
pub scope_pushed : {K : Type 0} (n : ℕ) (ss : List (BTreeMap K Object)) (s : BTreeMap K Object) → known_scopes n ss ≡ true →
    known_names n s.entries ≡ true → known_scopes n (ss ++ s ∷ []) ≡ true
scope_pushed n [] s b k = and_both (known_names n s.entries) true k refl
scope_pushed n (x ∷ ss) s b k =
    and_both (known_names n x.entries) (known_scopes n (ss ++ s ∷ [])) (and_left (known_names n x.entries) (known_scopes n ss) b)
    (scope_pushed n ss s (and_right (known_names n x.entries) (known_scopes n ss) b) k)

pub scope_popped : {K : Type 0} (n : ℕ) (ss : List (BTreeMap K Object)) (s : BTreeMap K Object) → known_scopes n (ss ++ s ∷ []) ≡ true →
    (known_scopes n ss ≡ true) × (known_names n s.entries ≡ true)
scope_popped n [] s b = (refl, and_left (known_names n s.entries) true b)
scope_popped n (x ∷ ss) s b =
    let rest = scope_popped n ss s (and_right (known_names n x.entries) (known_scopes n (ss ++ s ∷ [])) b) in
    (and_both (known_names n x.entries) (known_scopes n ss) (and_left (known_names n x.entries) (known_scopes n (ss ++ s ∷ [])) b) rest.0, rest.1)

module _ {K : Type 0} (n : ℕ) (own scope : BTreeMap K Object) (ss : List (BTreeMap K Object)) where
  pub entered : (known_names n own.entries && known_scopes n ss) ≡ true → known_names n scope.entries ≡ true →
      (b : Bool) (ts : List (BTreeMap K Object)) (outer inner : BTreeMap K Object) → outer ≡ own → inner ≡ scope →
      ts ≡ (if b then ss ++ outer ∷ [] else ss) → (known_names n inner.entries && known_scopes n ts) ≡ true
  entered known new b ts outer inner is here items =
      let around : (c : Bool) → known_scopes n (if c then ss ++ own ∷ [] else ss) ≡ true = λ c. at c in
      let same : ts ≡ (if b then ss ++ own ∷ [] else ss) = items ∙ ap (λ s. if b then ss ++ s ∷ [] else ss) is in
      and_both (known_names n inner.entries) (known_scopes n ts) (ap (λ s. known_names n s.entries) here ∙ new) (ap (known_scopes n) same ∙ around b)
    where
      at : (c : Bool) → known_scopes n (if c then ss ++ own ∷ [] else ss) ≡ true
      at true = scope_pushed n ss own (and_right (known_names n own.entries) (known_scopes n ss) known) (and_left (known_names n own.entries) (known_scopes n ss) known)
      at false = and_right (known_names n own.entries) (known_scopes n ss) known

  pub left : (known_names n own.entries && known_scopes n (ss ++ scope ∷ [])) ≡ true → (known_names n scope.entries && known_scopes n ss) ≡ true
  left known =
      let parts = scope_popped n ss scope (and_right (known_names n own.entries) (known_scopes n (ss ++ scope ∷ [])) known) in
      and_both (known_names n scope.entries) (known_scopes n ss) parts.1 parts.0

-- the last, taken away
pub last_removed : {X : Type 0} (xs : List X) (n : ℕ) (x : X) → n + 1 ≡ length xs → x ≡ get_or xs n x → xs ≡ remove xs n ++ x ∷ []
last_removed [] n x h is = absurd (omega (arith, h))
last_removed (y ∷ []) zero x h is = ap (λ z. z ∷ []) (sym is)
last_removed (y ∷ z ∷ xs) zero x h is = absurd (omega (arith, h))
last_removed (y ∷ xs) (suc n) x h is =
    let less : n + 1 ≡ length xs = omega (arith, h) in
    ap (λ zs. y ∷ zs) (last_removed xs n x less is)

-- what a name is declared as is known
module _ (n : ℕ) (name : List ℕ) (o : Object) where
  pub known_own : (s : BTreeMap (String Global) Object) → known_names n s.entries ≡ true → Some o ≡ get_by_text s name → known_object n o ≡ true
  known_own s b h = known_looked n (is_at (λ k. slice_cmp nat_cmp name (string_bytes k))) s.entries o b h

  pub known_around : (ss : List (BTreeMap (String Global) Object)) (l : ℕ) (s : BTreeMap (String Global) Object) → 0 < l → l ≤ length ss →
      s ≡ get_or ss (l - 1) s → known_scopes n ss ≡ true → Some o ≡ get_by_text s name → known_object n o ≡ true
  known_around ss l s some within is b h =
      let below : l - 1 < length ss = omega (arith, some, within) in
      known_own s (known_scope_at n (l - 1) ss s below is b) h
