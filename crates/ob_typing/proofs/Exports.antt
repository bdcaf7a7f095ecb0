-- A well typed module has at most 64 exports, and no nested procedure is one.
use Rattle.std.proofs.Common.{◌≡◌, refl, sym, ap, subst, ◌∙◌, arith, ℕ, suc, ◌+◌, ◌≤◌, Bool, true, false, List, [], ◌∷◌, ◌++◌, length, if◌then◌else◌}
use Rattle.std.specs.Prelude.{◌&&◌}
use Rattle.std.specs.List.{filter}
use Rattle.std.proofs.lemmas.Bool.{ne_eqb}
use Rattle.ob_grammar.specs.Tree
use Rattle.ob_grammar.specs.Tree.{ConstDecl, TypeDecl, VarDecl, Section, Heading, Declarations, Procedures}
use Rattle.ob_typing.specs.Program.{Name, DataType, Parameter, Variable, Procedure}
use Rattle.ob_typing.specs.Scopes.{Object, Environment, Constant, TypeName, ProcedureName, no_names, declared, level, variable_in, words}
use Rattle.ob_typing.specs.Declarations as Typing
use Rattle.ob_typing.specs.Declarations.{Room, with_words, with_variables, with_parameters, exports_behind, most_exports, is_nested, inner_scope, with_procedure, Constants, Types, Variables, Parameters, DeclaresProcedures, Declares}

-- the number of scopes

declared_level : (env : Environment) (name : Name) (o : Object) → 2 ≤ level env → level (declared env name o) ≡ level env
declared_level [] name o h = absurd (omega (arith, h))
declared_level (scope ∷ env) name o h = refl

constants_level : {env after : Environment} {xs : List ConstDecl} → Constants env xs after → 2 ≤ level env → level after ≡ level env
constants_level Typing.none h = refl
constants_level (Typing.more {env = env} {x = x} {s = s} new c k) h =
    let d = declared_level env x.name.text (Constant s) h in
    constants_level k (subst (λ n. 2 ≤ n) (sym d) h) ∙ d

types_level : {env after : Environment} {xs : List TypeDecl} → Types env xs after → 2 ≤ level env → level after ≡ level env
types_level Typing.none h = refl
types_level (Typing.more {env = env} {x = x} {t = t} new c k) h =
    let d = declared_level env x.name.text (TypeName t) h in
    types_level k (subst (λ n. 2 ≤ n) (sym d) h) ∙ d

with_variables_level : (t : DataType) (names : List Tree.Name) (env : Environment) (room : Room) → 2 ≤ level env → level (with_variables env room t names) ≡ level env
with_variables_level t [] env room h = refl
with_variables_level t (name ∷ names) env room h =
    let d = declared_level env name.text (variable_in env room.names t) h in
    with_variables_level t names (declared env name.text (variable_in env room.names t)) (with_words room (words t)) (subst (λ n. 2 ≤ n) (sym d) h) ∙ d

variables_level : {env after : Environment} {room : Room} {xs : List VarDecl} {vs : List Variable} → Variables env room xs after vs → 2 ≤ level env → level after ≡ level env
variables_level Typing.none h = refl
variables_level (Typing.more {env = env} {room = room} {x = x} {t = t} new c small k) h =
    let d = with_variables_level t x.names env room h in
    variables_level k (subst (λ n. 2 ≤ n) (sym d) h) ∙ d

with_parameters_level : (t : DataType) (names : List Tree.Name) (env : Environment) (count : ℕ) → 2 ≤ level env → level (with_parameters env count t names) ≡ level env
with_parameters_level t [] env count h = refl
with_parameters_level t (name ∷ names) env count h =
    let d = declared_level env name.text (variable_in env count t) h in
    with_parameters_level t names (declared env name.text (variable_in env count t)) (suc count) (subst (λ n. 2 ≤ n) (sym d) h) ∙ d

parameters_level : {env after : Environment} {count : ℕ} {xs : List Section} {ps : List Parameter} → Parameters env count xs after ps → 2 ≤ level env → level after ≡ level env
parameters_level Typing.none h = refl
parameters_level (Typing.more {env = env} {count = count} {x = x} {t = t} new c name simple k) h =
    let d = with_parameters_level t x.names env count h in
    parameters_level k (subst (λ n. 2 ≤ n) (sym d) h) ∙ d

inner_level : (within env : Environment) (n : ℕ) → level within ≡ suc n → level (inner_scope within env) ≡ suc (level env)
inner_level [] env n h = absurd (let e : 0 ≡ suc n = h in omega (arith, e))
inner_level (scope ∷ outer) env n h = refl

-- the scopes within a procedure are one more
procedure_level : {env within : Environment} {xs : List Section} {ps : List Parameter} (n : ℕ) (heading : Heading) → Parameters (no_names ∷ env) 0 xs within ps → 2 ≤ level env →
    level (inner_scope within (with_procedure env n heading ps)) ≡ suc (level env)
procedure_level {env = env} {within = within} {ps = ps} n heading p h =
    let w : level within ≡ suc (level env) = parameters_level p (let g : 2 ≤ level env = h in let e : level (no_names ∷ env) ≡ suc (level env) = refl in omega (arith, g, e)) in
    inner_level within (with_procedure env n heading ps) (level env) w ∙ ap suc (declared_level env heading.name.text (ProcedureName n ps) h)

-- exports

abbrev exported : List Procedure → ℕ
exported ps = length (filter (λ p. p.is_exported) ps)

one_of : (b : Bool) (p : Procedure) (fs gs : List Procedure) (m : ℕ) → length gs ≡ length fs + m →
    length (if b then p ∷ gs else gs) ≡ length (if b then p ∷ fs else fs) + m
one_of true p fs gs m h = let a : suc (length gs) ≡ suc (length fs) + m = omega (arith, h) in a
one_of false p fs gs m h = h

exported_append : (ps qs : List Procedure) → exported (ps ++ qs) ≡ exported ps + exported qs
exported_append [] qs = omega arith
exported_append (p ∷ ps) qs = one_of p.is_exported p (filter (λ q. q.is_exported) ps) (filter (λ q. q.is_exported) (ps ++ qs)) (exported qs) (exported_append ps qs)

unmarked : (marked nested : Bool) → (marked && nested) ≡ false → nested ≡ true → marked ≡ false
unmarked false nested h k = refl
unmarked true true h k = absurd cc
unmarked true false h k = absurd cc

counted : (b : Bool) (p : Procedure) (fs : List Procedure) (n : ℕ) → (if b then suc n else n) + length fs ≤ 64 → n + length (if b then p ∷ fs else fs) ≤ 64
counted true p fs n h = let k : suc n + length fs ≤ 64 = h in let e : length (p ∷ fs) ≡ suc (length fs) = refl in omega (arith, k, e)
counted false p fs n h = h

passed_over : (b : Bool) (p : Procedure) (fs : List Procedure) → b ≡ false → length fs ≡ 0 → length (if b then p ∷ fs else fs) ≡ 0
passed_over false p fs h k = k
passed_over true p fs h k = absurd cc

nested_within : (env : Environment) → 3 ≤ level env → is_nested env ≡ true
nested_within env h = rw (ne_eqb (level env) 2 (λ e. omega (arith, h, e))) refl

-- within a procedure nothing is exported
mutual
  none_exported : {env after : Environment} {n ex : ℕ} {xs : Procedures} {ps : List Procedure} → DeclaresProcedures env n ex xs after ps → 3 ≤ level env → exported ps ≡ 0
  none_exported Typing.none h = refl
  none_exported (Typing.procedure {env = env} {n = n} {exported = ex} {heading = heading} {ps = ps} {nested = nested} {others = others} new p simple d b k) h =
      let l : 2 ≤ level env = omega (arith, h) in
      let inner = procedure_level n heading p l in
      let x = none_declared d (omega (arith, h, inner)) in
      let o = declared_level env heading.name.text (ProcedureName n ps) l in
      let y = none_exported k (omega (arith, h, o)) in
      let a = exported_append nested others in
      passed_over heading.is_exported _ (filter (λ q. q.is_exported) (nested ++ others))
      (unmarked heading.is_exported (is_nested env) new.of_module (nested_within env h)) (omega (arith, x, y, a))

  none_declared : {env after : Environment} {n : ℕ} {room : Room} {d : Declarations} {vs : List Variable} {ps : List Procedure} → Declares env n room d after vs ps → 3 ≤ level env → exported ps ≡ 0
  none_declared (Typing.declarations {env = env} {env1 = env1} {env2 = env2} {env3 = env3} c t v p) h =
      let a = constants_level c (omega (arith, h)) in
      let b = types_level t (omega (arith, h, a)) in
      let e = variables_level v (omega (arith, h, a, b)) in
      none_exported p (omega (arith, h, a, b, e))

exports_counted : {env after : Environment} {n ex : ℕ} {xs : Procedures} {ps : List Procedure} → DeclaresProcedures env n ex xs after ps → 2 ≤ level env → ex ≤ 64 → ex + exported ps ≤ 64
exports_counted (Typing.none {exported = ex}) h k = let e : exported [] ≡ 0 = refl in omega (arith, k, e)
exports_counted (Typing.procedure {env = env} {n = n} {exported = ex} {heading = heading} {ps = ps} {nested = nested} {others = others} new p simple d b k) h m =
    let inner = procedure_level n heading p h in
    let x = none_declared d (omega (arith, h, inner)) in
    let o = declared_level env heading.name.text (ProcedureName n ps) h in
    let y = exports_counted k (omega (arith, h, o)) new.few in
    let a = exported_append nested others in
    counted heading.is_exported _ (filter (λ q. q.is_exported) (nested ++ others)) ex (omega (arith, x, y, a))

pub exports_within : {env after : Environment} {n : ℕ} {room : Room} {d : Declarations} {vs : List Variable} {ps : List Procedure} →
    Declares env n room d after vs ps → 2 ≤ level env → exported ps ≤ 64
exports_within (Typing.declarations c t v p) h =
    let a = constants_level c h in
    let b = types_level t (omega (arith, h, a)) in
    let e = variables_level v (omega (arith, h, a, b)) in
    let y = exports_counted p (omega (arith, h, a, b, e)) (omega arith) in
    omega (arith, y)
