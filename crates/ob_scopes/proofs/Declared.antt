-- Names that are declared one after another.
use Rattle.std.proofs.Common.{◌≡◌, ℕ, Bool, true, false, cond, List, [], ◌∷◌, Option, Some, None, option_map, is_some, String, Ordering, Less, Equal, Greater, refl, ap, ◌∙◌}
use Rattle.std.specs.Prelude.{◌&&◌, bytes_eq, string_bytes}
use Rattle.std.specs.declared.alloc.Global.{Global}
use Rattle.std.specs.String.{string_cmp}
use Rattle.std.specs.Map.{lookup}
use Rattle.std.specs.BTreeMap.{BTreeMap, UpdatesBy, IsEmpty, get_by_text, insert_entry, is_at}
use Rattle.std.specs.Cmp.Lexicographic.{slice_cmp}
use Rattle.std.specs.Ordering.{nat_cmp, match_ordering}
use Rattle.std.proofs.lemmas.Map.Text.{btree_map_updates_text}
use Rattle.ob_grammar.specs.Tree.{ConstDecl}
use Rattle.ob_typing.specs.declared.rule.Rule.TheVariants.{DeclaredTwice}
use Rattle.ob_typing.specs.Program.{Name}
use Rattle.ob_typing.specs.Scopes as Declared
use Rattle.ob_typing.specs.Scopes.{Environment, no_names, with_name, is_declared, declared}
use Rattle.ob_typing.specs.ExpressionFaults.{broken}
use Rattle.ob_typing.specs.Verdict.{Wrong, ◌>>=◌}
use Rattle.ob_typing.specs.TypeVerdicts.{constant}
use Rattle.ob_typing.specs.ModuleVerdicts.{constants}
use Rattle.ob_checked.specs.Types.{Entry}
use Rattle.ob_scopes.specs.declared.scopes.Object.{Object}
use Rattle.ob_scopes.specs.Objects.{object_of, scope_of, known_object, known_names}

module _ (types : List Entry) where
  pub scope_of-updated : (m n : BTreeMap (String Global) Object) (key name : Name) (o : Object) → key ≡ name →
      UpdatesBy string_cmp (λ k. slice_cmp nat_cmp key (string_bytes k)) m n (Some o) → scope_of types n ≡ with_name (scope_of types m) name (object_of types o)
  scope_of-updated m n key name o is h = (λ i q. at q i) ∙ ap (λ k. with_name (scope_of types m) k (object_of types o)) is
    where
      by : (b : Bool) (old : Option Object) → option_map (object_of types) (cond b (Some o) old) ≡ cond b (Some (object_of types o)) (option_map (object_of types) old)
      by true old = refl
      by false old = refl

      at : (q : Name) → scope_of types n q ≡ with_name (scope_of types m) key (object_of types o) q
      at q = ap (option_map (object_of types)) (btree_map_updates_text key m n (Some o) h q) ∙ by (bytes_eq key q) (get_by_text m q)

  -- the same entries declare the same
  pub scope_of-unchanged : (m n : BTreeMap (String Global) Object) → n.entries ≡ m.entries → scope_of types n ≡ scope_of types m
  scope_of-unchanged m n e = ap (λ es q. option_map (object_of types) (lookup (is_at (λ k. slice_cmp nat_cmp q (string_bytes k))) es)) e

  pub scope_of-empty : (m : BTreeMap (String Global) Object) → IsEmpty m → scope_of types m ≡ no_names
  scope_of-empty m e = ap (λ es q. option_map (object_of types) (lookup (is_at (λ k. slice_cmp nat_cmp q (string_bytes k))) es)) e

pub is_some-mapped : {X Y : Type 0} (f : X → Y) (x : Option X) → is_some (option_map f x) ≡ is_some x
is_some-mapped f None = refl
is_some-mapped f (Some x) = refl

and_both : (a b : Bool) → a ≡ true → b ≡ true → (a && b) ≡ true
and_both true b h k = k
and_both false b h k = absurd cc

and_left : (a b : Bool) → (a && b) ≡ true → a ≡ true
and_left true b h = refl
and_left false b h = absurd cc

and_right : (a b : Bool) → (a && b) ≡ true → b ≡ true
and_right true b h = h
and_right false b h = absurd cc

-- a name more has its types in the table too
pub known-inserted : {K : Type 0} (cmp : K → K → Ordering) (n : ℕ) (es : List (K × Object)) (k : K) (o : Object) →
    known_names n es ≡ true → known_object n o ≡ true → known_names n (insert_entry cmp es k o) ≡ true
known-inserted cmp n [] k o h j = and_both (known_object n o) true j refl
known-inserted {K = K} cmp n (e ∷ es) k o h j = at (cmp k e.0) (known-inserted cmp n es k o (and_right (known_object n e.1) (known_names n es) h) j)
  where
    at : (r : Ordering) → known_names n (insert_entry cmp es k o) ≡ true → known_names n (match_ordering r ((k, o) ∷ e ∷ es) ((e.0, o) ∷ es) (e ∷ insert_entry cmp es k o)) ≡ true
    at Less rest = and_both (known_object n o) (known_names n (e ∷ es)) j h
    at Equal rest = and_both (known_object n o) (known_names n es) j (and_right (known_object n e.1) (known_names n es) h)
    at Greater rest = and_both (known_object n e.1) (known_names n (insert_entry cmp es k o)) (and_left (known_object n e.1) (known_names n es) h) rest

-- a constant in front of others
module _ (env : Environment) (x : ConstDecl) (rest : List ConstDecl) where
  pub constant_twice : is_declared env x.name.text ≡ true → constants (x ∷ rest) env ≡ Wrong (broken DeclaredTwice x.name.place)
  constant_twice h = rw h refl

  pub constant_new : is_declared env x.name.text ≡ false →
      constants (x ∷ rest) env ≡ ◌>>=◌ (constant env x.value) (λ s. constants rest (declared env x.name.text (Declared.Constant s)))
  constant_new h = rw h refl
