-- What a scope declares, name by name: each variable stands at its position, and no two have one name.
use Rattle.std.proofs.Common.{◌≡◌, refl, ap, sym, subst, ◌∙◌, arith, ℕ, zero, suc, pred, ◌+◌, Bool, true, false, List, [], ◌∷◌, ◌++◌, map, length, bytes_eq, if◌then◌else◌, Option, Some, None}
use Rattle.std.specs.Prelude.{is_some}
use Rattle.std.proofs.lemmas.Bool.{false_from_ne_true}
use Rattle.std.proofs.lemmas.List.{append-nil, append_assoc, map-append}
use Rattle.std.proofs.lemmas.Slice.Eq.{bytes_eq-Decides}
use Rattle.ob_grammar.specs.Tree
use Rattle.ob_grammar.specs.Tree.{ConstDecl, TypeDecl, VarDecl, Section}
use Rattle.ob_interface.specs.declared.scalar.Scalar.{Scalar}
use Rattle.ob_typing.specs.Program.{Name, DataType, Parameter, Variable}
use Rattle.ob_typing.specs.Scopes.{Object, Constant, TypeName, Environment, is_declared, declared, variable_in, words}
use Rattle.ob_typing.specs.Types.{Taken, and_taken, second}
use Rattle.ob_typing.specs.Declarations as Typing
use Rattle.ob_typing.specs.Declarations.{Room, with_words, with_variables, room_behind, variables_of, with_parameters, parameters_of, most_parameters, Constants, Types, Variables, Parameters}
use Rattle.ob_meaning.specs.Resolved.{as_parameter, IsAt, NoneCalled, AreDistinct}
use Rattle.ob_meaning.proofs.Known.{Stands, same_name}

-- names that are new

abbrev AreNew : Taken → List Tree.Name → Type 0
AreNew taken [] = Unit {0}
AreNew taken (name ∷ names) = (taken name.text ≡ false) × AreNew (and_taken taken name.text) names

else_none : {A : Type 0} (b : Bool) (x : Option A) (a : A) → (if b then Some a else x) ≡ None → (b ≡ false) × (x ≡ None)
else_none false x a h = (refl, h)
else_none true x a h = absurd cc

second_new : (taken : Taken) (names : List Tree.Name) → second taken names ≡ None → AreNew taken names
second_new taken [] h = tt
second_new taken (name ∷ names) h =
    let new = else_none (taken name.text) (second (and_taken taken name.text) names) name h in
    (new.0, second_new (and_taken taken name.text) names new.1)

-- names that are declared

abbrev pub AreDeclared : List Parameter → Environment → Type 0
AreDeclared [] env = Unit {0}
AreDeclared (p ∷ ps) env = (is_declared env p.name ≡ true) × AreDeclared ps env

abbrev IsTaken : Taken → Environment → Type 0
IsTaken taken env = (name : Name) → taken name ≡ is_declared env name

some_if : (b : Bool) (new : Object) (o : Option Object) → (if b then true else is_some o) ≡ is_some (if b then Some new else o)
some_if true new o = refl
some_if false new o = refl

taken_more : (taken : Taken) (env : Environment) (name : Name) (new : Object) → IsTaken taken env → IsTaken (and_taken taken name) (declared env name new)
taken_more taken [] name new h other =
    ap (λ b. if bytes_eq name other then true else b) (h other) ∙ some_if (bytes_eq name other) new None
taken_more taken (scope ∷ env) name new h other =
    ap (λ b. if bytes_eq name other then true else b) (h other) ∙ some_if (bytes_eq name other) new (scope other)

still_some : (b : Bool) (new : Object) (o : Option Object) → is_some o ≡ true → is_some (if b then Some new else o) ≡ true
still_some true new o h = refl
still_some false new o h = h

still_declared : (env : Environment) (name other : Name) (new : Object) → is_declared env other ≡ true → is_declared (declared env name new) other ≡ true
still_declared [] name other new h = absurd cc
still_declared (scope ∷ env) name other new h = still_some (bytes_eq name other) new (scope other) h

some_first : (b : Bool) (new : Object) (o : Option Object) → b ≡ true → is_some (if b then Some new else o) ≡ true
some_first true new o h = refl
some_first false new o h = absurd cc

itself : (name : Name) → bytes_eq name name ≡ true
itself name = (bytes_eq-Decides name name).1 refl

now_declared : (env : Environment) (name : Name) (new : Object) → is_declared (declared env name new) name ≡ true
now_declared [] name new = some_first (bytes_eq name name) new None (itself name)
now_declared (scope ∷ env) name new = some_first (bytes_eq name name) new (scope name) (itself name)

all_declared : (ps : List Parameter) (env : Environment) (name : Name) (new : Object) → AreDeclared ps env → AreDeclared ps (declared env name new)
all_declared [] env name new h = tt
all_declared (p ∷ ps) env name new h = (still_declared env name p.name new h.0, all_declared ps env name new h.1)

one_declared : (ps : List Parameter) (p : Parameter) (env : Environment) → AreDeclared ps env → is_declared env p.name ≡ true → AreDeclared (ps ++ p ∷ []) env
one_declared [] p env h d = (d, tt)
one_declared (q ∷ ps) p env h d = (h.0, one_declared ps p env h.1 d)

-- what is declared has another name than what is not
differ : (env : Environment) (name other : Name) → is_declared env name ≡ true → is_declared env other ≡ false → bytes_eq name other ≡ false
differ env name other h k =
    false_from_ne_true (bytes_eq name other)
    (λ e. let same : is_declared env name ≡ is_declared env other = ap (is_declared env) (same_name name other e) in cc)

differ_back : (env : Environment) (name other : Name) → is_declared env name ≡ true → is_declared env other ≡ false → bytes_eq other name ≡ false
differ_back env name other h k =
    false_from_ne_true (bytes_eq other name)
    (λ e. let same : is_declared env other ≡ is_declared env name = ap (is_declared env) (same_name other name e) in cc)

-- a variable more

at_end : (ps : List Parameter) (p : Parameter) (env : Environment) → AreDeclared ps env → is_declared env p.name ≡ false → IsAt (ps ++ p ∷ []) p.name (length ps) p
at_end [] p env h new = (itself p.name, refl)
at_end (q ∷ ps) p env h new = (differ env q.name p.name h.0 new, at_end ps p env h.1 new)

none_called : (ps : List Parameter) (p : Parameter) (name : Name) → NoneCalled ps name → bytes_eq p.name name ≡ false → NoneCalled (ps ++ p ∷ []) name
none_called [] p name h new = (new, tt)
none_called (q ∷ ps) p name h new = (h.0, none_called ps p name h.1 new)

distinct_more : (ps : List Parameter) (p : Parameter) (env : Environment) → AreDeclared ps env → is_declared env p.name ≡ false → AreDistinct ps → AreDistinct (ps ++ p ∷ [])
distinct_more [] p env h new d = (tt, tt)
distinct_more (q ∷ ps) p env h new d =
    (none_called ps p q.name d.0 (differ_back env q.name p.name h.0 new), distinct_more ps p env h.1 new d.1)

at_before : (ps : List Parameter) (p : Parameter) (name : Name) (i : ℕ) (q : Parameter) → IsAt ps name i q → IsAt (ps ++ p ∷ []) name i q
at_before [] p name i q h = absurd h
at_before (x ∷ ps) p name zero q h = h
at_before (x ∷ ps) p name (suc i) q h = (h.0, at_before ps p name i q h.1)

pub stands_before : (ps : List Parameter) (p : Parameter) (name : Name) (i : ℕ) (t : DataType) → Stands ps name i t → Stands (ps ++ p ∷ []) name i t
stands_before ps p name i t h = (h.0, (at_before ps p name i h.0 h.1.0, h.1.1))

-- the variables of types

variables_parameters : (t : DataType) (names : List Tree.Name) → map as_parameter (variables_of t names) ≡ parameters_of false t names
variables_parameters t [] = refl
variables_parameters t (name ∷ names) = ap (λ ps. record { name = name.text; is_var = false; type = t } ∷ ps) (variables_parameters t names)

same_with : (t : DataType) (names : List Tree.Name) (env : Environment) (room : Room) → with_variables env room t names ≡ with_parameters env room.names t names
same_with t [] env room = refl
same_with t (name ∷ names) env room = same_with t names (declared env name.text (variable_in env room.names t)) (with_words room (words t))

names_behind : (t : DataType) (names : List Tree.Name) (room : Room) → (room_behind room t names).names ≡ room.names + length names
names_behind t [] room = omega arith
names_behind t (name ∷ names) room =
    let rest = names_behind t names (with_words room (words t)) in
    let one : (with_words room (words t)).names ≡ suc room.names = refl in
    omega (arith, rest, one)

length_push : (ps : List Parameter) (p : Parameter) (i : ℕ) → length ps ≡ i → length (ps ++ p ∷ []) ≡ suc i
length_push [] p i h = ap suc h
length_push (q ∷ ps) p zero h = absurd cc
length_push (q ∷ ps) p (suc i) h = ap suc (length_push ps p i (ap pred h))

length_names : (is_var : Bool) (t : DataType) (names : List Tree.Name) (ps : List Parameter) → length (ps ++ parameters_of is_var t names) ≡ length ps + length names
length_names is_var t [] ps = let e = ap length (append-nil ps) in omega (arith, e)
length_names is_var t (name ∷ names) ps =
    let p : Parameter = record { name = name.text; is_var = is_var; type = t } in
    let e : length ((ps ++ p ∷ []) ++ parameters_of is_var t names) ≡ length (ps ++ p ∷ parameters_of is_var t names) =
    ap length (append_assoc ps (p ∷ []) (parameters_of is_var t names)) in
    let one = length_push ps p (length ps) refl in
    let rest = length_names is_var t names (ps ++ p ∷ []) in
    omega (arith, e, one, rest)

-- a scope with what it declares, of which something holds

pub record Scoped (R : List Parameter → Environment → Type 0) (own : List Parameter) (env : Environment) : Type 0 where
  pub right : R own env
  pub named : AreDeclared own env
  pub distinct : AreDistinct own

module _ (R : List Parameter → Environment → Type 0)
    (longer : (own : List Parameter) (p : Parameter) (env : Environment) → R own env → R (own ++ p ∷ []) env)
    (variable : (own : List Parameter) (env : Environment) (name : Name) (i : ℕ) (t : DataType) → R own env → Stands own name i t → R own (declared env name (variable_in env i t))) where
  one_scoped : (own : List Parameter) (env : Environment) (p : Parameter) (i : ℕ) → length own ≡ i → is_declared env p.name ≡ false → Scoped R own env →
      Scoped R (own ++ p ∷ []) (declared env p.name (variable_in env i p.type))
  one_scoped own env p i count new s =
      let o = variable_in env i p.type in
      let at = subst (λ k. IsAt (own ++ p ∷ []) p.name k p) count (at_end own p env s.named new) in
      record {
        right = variable (own ++ p ∷ []) env p.name i p.type (longer own p env s.right) (p, (at, refl));
        named = one_declared own p (declared env p.name o) (all_declared own env p.name o s.named) (now_declared env p.name o);
        distinct = distinct_more own p env s.named new s.distinct;
      }

  names_scoped : (is_var : Bool) (t : DataType) (names : List Tree.Name) (own : List Parameter) (env : Environment) (taken : Taken) (i : ℕ) → IsTaken taken env → AreNew taken names →
      length own ≡ i → Scoped R own env → Scoped R (own ++ parameters_of is_var t names) (with_parameters env i t names)
  names_scoped is_var t [] own env taken i same new count s = subst (λ ps. Scoped R ps env) (sym (append-nil own)) s
  names_scoped is_var t (name ∷ names) own env taken i same new count s =
      let p : Parameter = record { name = name.text; is_var = is_var; type = t } in
      let o = variable_in env i t in
      let after = declared env name.text o in
      subst (λ ps. Scoped R ps (with_parameters after (suc i) t names)) (append_assoc own (p ∷ []) (parameters_of is_var t names))
      (names_scoped is_var t names (own ++ p ∷ []) after (and_taken taken name.text) (suc i) (taken_more taken env name.text o same) new.1 (length_push own p i count)
      (one_scoped own env p i count (sym (same name.text) ∙ new.0) s))

  pub variables_scoped : {env after : Environment} {room : Room} {xs : List VarDecl} {vs : List Variable} → Variables env room xs after vs → (own : List Parameter) →
      length own ≡ room.names → Scoped R own env → Scoped R (own ++ map as_parameter vs) after
  variables_scoped (Typing.none {env = env}) own count s = subst (λ ps. Scoped R ps env) (sym (append-nil own)) s
  variables_scoped (Typing.more {env = env} {after = after} {room = room} {x = x} {t = t} {vs = vs} new d small k) own count s =
      let group = parameters_of false t x.names in
      let first : Scoped R (own ++ group) (with_variables env room t x.names) =
      subst (λ e. Scoped R (own ++ group) e) (sym (same_with t x.names env room))
      (names_scoped false t x.names own env (is_declared env) room.names (λ name. refl) (second_new (is_declared env) x.names new) count s) in
      let l = length_names false t x.names own in
      let b = names_behind t x.names room in
      let rest = variables_scoped k (own ++ group) (omega (arith, l, b, count)) first in
      let e : (own ++ group) ++ map as_parameter vs ≡ own ++ map as_parameter (variables_of t x.names ++ vs) =
      append_assoc own group (map as_parameter vs) ∙ ap (λ ps. own ++ (ps ++ map as_parameter vs)) (sym (variables_parameters t x.names))
      ∙ ap (λ ps. own ++ ps) (sym (map-append as_parameter (variables_of t x.names) vs)) in
      subst (λ ps. Scoped R ps after) e rest

  pub parameters_scoped : {env after : Environment} {count : ℕ} {xs : List Section} {ps : List Parameter} → Parameters env count xs after ps → (own : List Parameter) →
      length own ≡ count → Scoped R own env → Scoped R (own ++ ps) after
  parameters_scoped (Typing.none {env = env}) own same s = subst (λ ps. Scoped R ps env) (sym (append-nil own)) s
  parameters_scoped (Typing.more {env = env} {after = after} {count = count} {x = x} {t = t} {ps = ps} new d name simple k) own same s =
      let group = parameters_of x.is_var t x.names in
      let first : Scoped R (own ++ group) (with_parameters env count t x.names) =
      names_scoped x.is_var t x.names own env (is_declared env) count (λ name. refl) (second_new (is_declared env) x.names new.new) same s in
      let l = length_names x.is_var t x.names own in
      subst (λ qs. Scoped R qs after) (append_assoc own group ps) (parameters_scoped k (own ++ group) (omega (arith, l, same)) first)

module _ (R : List Parameter → Environment → Type 0)
    (constant : (own : List Parameter) (env : Environment) (name : Name) (value : Scalar) → R own env → R own (declared env name (Constant value)))
    (type_name : (own : List Parameter) (env : Environment) (name : Name) (t : DataType) → R own env → R own (declared env name (TypeName t))) where
  pub constants_scoped : {env after : Environment} {xs : List ConstDecl} → Constants env xs after → (own : List Parameter) → Scoped R own env → Scoped R own after
  constants_scoped Typing.none own s = s
  constants_scoped (Typing.more {env = env} {x = x} {s = value} new c k) own s =
      let first : Scoped R own (declared env x.name.text (Constant value)) =
      record {
        right = constant own env x.name.text value s.right;
        named = all_declared own env x.name.text (Constant value) s.named;
        distinct = s.distinct;
      } in
      constants_scoped k own first

  pub types_scoped : {env after : Environment} {xs : List TypeDecl} → Types env xs after → (own : List Parameter) → Scoped R own env → Scoped R own after
  types_scoped Typing.none own s = s
  types_scoped (Typing.more {env = env} {x = x} {t = t} new d k) own s =
      let first : Scoped R own (declared env x.name.text (TypeName t)) =
      record {
        right = type_name own env x.name.text t s.right;
        named = all_declared own env x.name.text (TypeName t) s.named;
        distinct = s.distinct;
      } in
      types_scoped k own first
