-- A well typed module's program is resolved.
use Rattle.std.proofs.Common.{◌≡◌, refl, ap, sym, subst, ◌∙◌, arith, ℕ, zero, suc, ◌+◌, ◌≤◌, Bool, true, false, List, [], ◌∷◌, ◌++◌, map, length, codes, bytes_eq, if◌then◌else◌, Option, Some, None}
use Rattle.std.specs.Prelude.{slice_get, ◌&&◌}
use Rattle.std.specs.List.{filter}
use Rattle.std.proofs.lemmas.Bool.{ne_eqb}
use Rattle.std.proofs.lemmas.List.{map-append}
use Rattle.ob_grammar.specs.Tree
use Rattle.ob_grammar.specs.Tree.{Stmts, Section, Heading, Declarations, Procedures, Module}
use Rattle.ob_interface.specs.declared.scalar.Scalar.{Scalar}
use Rattle.ob_interface.specs.declared.scalar.Scalar.TheVariants as Scalars
use Rattle.ob_interface.specs.declared.scalar.ScalarType.TheVariants.{Integer, Boolean}
use Rattle.ob_typing.specs.Program
use Rattle.ob_typing.specs.Program.{exports, Name, DataType, Simple, Parameter, Variable, Procedure}
use Rattle.ob_typing.specs.Scopes.{Object, Constant, TypeName, ModuleVariable, LocalVariable, ProcedureName, Scope, no_names, with_name, Environment, or_else, declared, level, variable_in, outermost, opening_names}
use Rattle.ob_typing.specs.Statements.{listed}
use Rattle.ob_typing.specs.Declarations as Typing
use Rattle.ob_typing.specs.Declarations.{Room, is_nested, NewProcedure, parameters_of, Parameters, inner_scope, with_procedure, frame_room, DeclaresProcedures, Declares, WellTyped}
use Rattle.ob_meaning.specs.Resolved.{as_parameter, module_scope, AreDistinct, IsProcedure, IsResolved}
use Rattle.ob_meaning.specs.Exported.{Formal, Export, formals_in, exports_in, exports_declared, exports_of, seen}
use Rattle.ob_meaning.proofs.Known.{Stands, IsRight, Knows, knows_more}
use Rattle.ob_meaning.proofs.ResolvedStatements.{good_body}
use Rattle.ob_meaning.proofs.ResolvedScopes.{AreDeclared, Scoped, stands_before, variables_scoped, parameters_scoped, constants_scoped, types_scoped}

-- with more variables

module _ (procedures : List Procedure) where
  right_before : (outer after own : List Parameter) (p : Parameter) (here : ℕ) (name : Name) (o : Object) →
      ((i : ℕ) (t : DataType) → Stands outer name i t → Stands after name i t) → IsRight outer procedures here own name o → IsRight after procedures here (own ++ p ∷ []) name o
  right_before outer after own p here name (Constant s) up h = tt
  right_before outer after own p here name (TypeName t) up h = tt
  right_before outer after own p here name (ModuleVariable i t) up h = up i t h
  right_before outer after own p here name (LocalVariable there i t) up h = (h.0, λ e. stands_before own p name i t (h.1 e))
  right_before outer after own p here name (ProcedureName n ps) up h = h

  -- what holds while a scope is declared: at the module's level, and within procedures

  abbrev InModule : List Parameter → Environment → Type 0
  InModule own env = Knows own procedures own env × (level env ≡ 2)

  module_longer : (own : List Parameter) (p : Parameter) (env : Environment) → InModule own env → InModule (own ++ p ∷ []) env
  module_longer own p env h =
      (λ name o e. right_before own (own ++ p ∷ []) own p (level env) name o (λ i t s. stands_before own p name i t s) (h.0 name o e), h.1)

  module_variable : (own : List Parameter) (env : Environment) (name : Name) (i : ℕ) (t : DataType) → InModule own env → Stands own name i t → InModule own (declared env name (variable_in env i t))
  module_variable own [] name i t h s = absurd (let e = h.1 in cc)
  module_variable own (a ∷ []) name i t h s = absurd (let e = h.1 in cc)
  module_variable own (a ∷ b ∷ []) name i t h s = (knows_more own procedures own a (b ∷ []) name (ModuleVariable i t) h.0 s, refl)
  module_variable own (a ∷ b ∷ c ∷ env) name i t h s = absurd (let e : suc (suc (suc (length env))) ≡ 2 = h.1 in omega (arith, e))

  module_constant : (own : List Parameter) (env : Environment) (name : Name) (value : Scalar) → InModule own env → InModule own (declared env name (Constant value))
  module_constant own [] name value h = absurd (let e = h.1 in cc)
  module_constant own (a ∷ env) name value h = (knows_more own procedures own a env name (Constant value) h.0 tt, h.1)

  module_type : (own : List Parameter) (env : Environment) (name : Name) (t : DataType) → InModule own env → InModule own (declared env name (TypeName t))
  module_type own [] name t h = absurd (let e = h.1 in cc)
  module_type own (a ∷ env) name t h = (knows_more own procedures own a env name (TypeName t) h.0 tt, h.1)

-- the outermost scope

abbrev IsPlain : Object → Type 0
IsPlain (Constant value) = Unit {0}
IsPlain (TypeName type) = Unit {0}
IsPlain _ = ⊥

abbrev ArePlain : Scope → Type 0
ArePlain scope = (name : Name) (o : Object) → scope name ≡ Some o → IsPlain o

some_object : (o p : Object) → Some o ≡ Some p → o ≡ p
some_object o p e = cc

plain_if : (b : Bool) (new o : Object) (rest : Option Object) → IsPlain new → (rest ≡ Some o → IsPlain o) → (if b then Some new else rest) ≡ Some o → IsPlain o
plain_if true new o rest p h e = subst IsPlain (some_object new o e) p
plain_if false new o rest p h e = h e

plain_more : (scope : Scope) (name : Name) (new : Object) → ArePlain scope → IsPlain new → ArePlain (with_name scope name new)
plain_more scope name new h p other o e = plain_if (bytes_eq name other) new o (scope other) p (h other o) e

plain_none : ArePlain no_names
plain_none name o e = cc

outermost_plain : ArePlain outermost
outermost_plain =
    plain_more (with_name (with_name (with_name no_names (codes "FALSE") (Constant (Scalars.Bool false))) (codes "TRUE") (Constant (Scalars.Bool true))) (codes "BOOLEAN") (TypeName (Simple Boolean)))
    (codes "INTEGER") (TypeName (Simple Integer))
    (plain_more (with_name (with_name no_names (codes "FALSE") (Constant (Scalars.Bool false))) (codes "TRUE") (Constant (Scalars.Bool true))) (codes "BOOLEAN") (TypeName (Simple Boolean))
    (plain_more (with_name no_names (codes "FALSE") (Constant (Scalars.Bool false))) (codes "TRUE") (Constant (Scalars.Bool true))
    (plain_more no_names (codes "FALSE") (Constant (Scalars.Bool false)) plain_none tt) tt) tt) tt

or_none : (a : Option Object) → or_else a None ≡ a
or_none None = refl
or_none (Some o) = refl

plain_right : (outer own : List Parameter) (procedures : List Procedure) (here : ℕ) (name : Name) (o : Object) → IsPlain o → IsRight outer procedures here own name o
plain_right outer own procedures here name (Constant value) p = tt
plain_right outer own procedures here name (TypeName t) p = tt
plain_right outer own procedures here name (ModuleVariable i t) p = absurd p
plain_right outer own procedures here name (LocalVariable there i t) p = absurd p
plain_right outer own procedures here name (ProcedureName n ps) p = absurd p

opening_knows : (procedures : List Procedure) → Knows [] procedures [] opening_names
opening_knows procedures name o e =
    plain_right [] [] procedures 2 name o (outermost_plain name o (sym (or_none (outermost name)) ∙ e))

-- lists of procedures

get_left : (ps qs : List Procedure) (k : ℕ) (p : Procedure) → slice_get ps k ≡ Some p → slice_get (ps ++ qs) k ≡ Some p
get_left [] qs k p e = absurd cc
get_left (q ∷ ps) qs zero p e = e
get_left (q ∷ ps) qs (suc k) p e = get_left ps qs k p e

get_right : (ps qs : List Procedure) (k : ℕ) → slice_get (ps ++ qs) (length ps + k) ≡ slice_get qs k
get_right [] qs k = let e : length {A = Procedure} [] + k ≡ k = omega arith in ap (slice_get qs) e
get_right (q ∷ ps) qs k =
    let e : length (q ∷ ps) + k ≡ suc (length ps + k) = omega arith in
    ap (slice_get (q ∷ ps ++ qs)) e ∙ get_right ps qs k

-- exports

abbrev marked : List Procedure → List Procedure
marked = filter (λ p. p.is_exported)

marked_if : (b : Bool) (p : Procedure) (fs gs : List Procedure) → (if b then p ∷ (fs ++ gs) else fs ++ gs) ≡ (if b then p ∷ fs else fs) ++ gs
marked_if true p fs gs = refl
marked_if false p fs gs = refl

marked_both : (ps qs : List Procedure) → marked (ps ++ qs) ≡ marked ps ++ marked qs
marked_both [] qs = refl
marked_both (p ∷ ps) qs =
    ap (λ fs. if p.is_exported then p ∷ fs else fs) (marked_both ps qs) ∙ marked_if p.is_exported p (marked ps) (marked qs)

-- at the module's level the exports are those of the text, and further in there are none
abbrev ExportsAt : ℕ → Procedures → List Procedure → Type 0
ExportsAt zero xs ps = map seen (marked ps) ≡ exports_in xs
ExportsAt (suc more) xs ps = marked ps ≡ []

no_exports : (more : ℕ) → ExportsAt more Tree.no_procedure []
no_exports zero = refl
no_exports (suc more) = refl

abbrev seen_parameter : Parameter → Formal
seen_parameter q = record { name = q.name; is_var = q.is_var }

abbrev seen_name : Bool → Tree.Name → Formal
seen_name is_var name = record { name = name.text; is_var = is_var }

formals_seen : (is_var : Bool) (t : DataType) (names : List Tree.Name) →
    map seen_parameter (parameters_of is_var t names) ≡ map (seen_name is_var) names
formals_seen is_var t [] = refl
formals_seen is_var t (name ∷ names) = ap (λ fs. seen_name is_var name ∷ fs) (formals_seen is_var t names)

parameters_seen : {env after : Environment} {count : ℕ} {xs : List Section} {ps : List Parameter} → Parameters env count xs after ps →
    map seen_parameter ps ≡ formals_in xs
parameters_seen Typing.none = refl
parameters_seen (Typing.more {x = x} {xs = xs} {t = t} {ps = ps} new d name simple k) =
    map-append seen_parameter (parameters_of x.is_var t x.names) ps
    ∙ ap (λ fs. fs ++ map seen_parameter ps) (formals_seen x.is_var t x.names)
    ∙ ap (λ fs. map (seen_name x.is_var) x.names ++ fs) (parameters_seen k)

first_seen : (b : Bool) (p : Procedure) (e : Export) (fs : List Procedure) (es : List Export) → seen p ≡ e → map seen fs ≡ es →
    map seen (if b then p ∷ fs else fs) ≡ (if b then e ∷ es else es)
first_seen true p e fs es h k = ap (λ x. x ∷ map seen fs) h ∙ ap (λ xs. e ∷ xs) k
first_seen false p e fs es h k = k

-- a procedure within another one is not exported
unmarked : (exported nested : Bool) → (exported && nested) ≡ false → nested ≡ true → exported ≡ false
unmarked false nested h k = refl
unmarked true true h k = absurd cc
unmarked true false h k = absurd cc

within_others : (env : Environment) (more : ℕ) → level env ≡ suc (suc (suc more)) → is_nested env ≡ true
within_others env more l = rw (ne_eqb (level env) 2 (λ e. omega (arith, l, e))) refl

none_marked : (b : Bool) (p : Procedure) (fs : List Procedure) → b ≡ false → fs ≡ [] → (if b then p ∷ fs else fs) ≡ []
none_marked true p fs h k = absurd cc
none_marked false p fs h k = k

one_more_export : (more : ℕ) (env : Environment) (exported : ℕ) (heading : Heading) (inner : Declarations) (body : Option Stmts) (end_name : Tree.Name) (rest : Procedures)
    (p : Procedure) (nested others : List Procedure) → NewProcedure env exported heading → level env ≡ suc (suc more) → p.is_exported ≡ heading.is_exported →
    seen p ≡ record { name = heading.name.text; parameters = formals_in (listed heading.parameters) } → marked nested ≡ [] → ExportsAt more rest others →
    ExportsAt more (Tree.procedure heading inner body end_name rest) (p ∷ nested ++ others)
one_more_export zero env exported heading inner body end_name rest p nested others new l same is none h =
    let behind : marked (nested ++ others) ≡ marked others = marked_both nested others ∙ ap (λ fs. fs ++ marked others) none in
    ap (λ fs. map seen (if p.is_exported then p ∷ fs else fs)) behind
    ∙ first_seen p.is_exported p _ (marked others) (exports_in rest) is h
    ∙ ap (λ b. if b then record { name = heading.name.text; parameters = formals_in (listed heading.parameters) } ∷ exports_in rest else exports_in rest) same
one_more_export (suc more) env exported heading inner body end_name rest p nested others new l same is none h =
    let behind : marked (nested ++ others) ≡ [] = marked_both nested others ∙ ap (λ fs. fs ++ marked others) none ∙ h in
    none_marked p.is_exported p (marked (nested ++ others))
    (same ∙ unmarked heading.is_exported (is_nested env) new.of_module (within_others env more l)) behind

module _ (program : Program.Program) where
  abbrev outer : List Parameter
  outer = module_scope program

  abbrev procedures : List Procedure
  procedures = program.procedures

  abbrev AreProcedures : List Procedure → Type 0
  AreProcedures [] = Unit {0}
  AreProcedures (p ∷ ps) = IsProcedure program p × AreProcedures ps

  both_procedures : (ps qs : List Procedure) → AreProcedures ps → AreProcedures qs → AreProcedures (ps ++ qs)
  both_procedures [] qs h k = k
  both_procedures (p ∷ ps) qs h k = (h.0, both_procedures ps qs h.1 k)

  procedure_at : (ps : List Procedure) → AreProcedures ps → (n : ℕ) (p : Procedure) → slice_get ps n ≡ Some p → IsProcedure program p
  procedure_at [] h n p e = absurd cc
  procedure_at (q ∷ ps) h zero p e = subst (IsProcedure program) (let same : q ≡ p = cc in same) h.0
  procedure_at (q ∷ ps) h (suc n) p e = procedure_at ps h.1 n p e

  -- these procedures stand from this number on
  abbrev StandFrom : ℕ → List Procedure → Type 0
  StandFrom n ps = (k : ℕ) (p : Procedure) → slice_get ps k ≡ Some p → slice_get procedures (n + k) ≡ Some p

  first_stands : (n : ℕ) (p : Procedure) (ps : List Procedure) → StandFrom n (p ∷ ps) → slice_get procedures n ≡ Some p
  first_stands n p ps h =
      let e : n ≡ n + 0 = omega arith in
      ap (slice_get procedures) e ∙ h 0 p refl

  others_stand : (n : ℕ) (p : Procedure) (ps : List Procedure) → StandFrom n (p ∷ ps) → StandFrom (suc n) ps
  others_stand n p ps h k q e =
      let same : suc n + k ≡ n + suc k = omega arith in
      ap (slice_get procedures) same ∙ h (suc k) q e

  left_stand : (n : ℕ) (ps qs : List Procedure) → StandFrom n (ps ++ qs) → StandFrom n ps
  left_stand n ps qs h k p e = h k p (get_left ps qs k p e)

  right_stand : (n : ℕ) (ps qs : List Procedure) → StandFrom n (ps ++ qs) → StandFrom (n + length ps) qs
  right_stand n ps qs h k p e =
      let same : (n + length ps) + k ≡ n + (length ps + k) = omega arith in
      ap (slice_get procedures) same ∙ h (length ps + k) p (get_right ps qs k ∙ e)

  -- in a scope of so many more levels than the outermost one

  abbrev InScope : ℕ → List Parameter → Environment → Type 0
  InScope more own env = Knows outer procedures own env × (level env ≡ suc more)

  scope_more : (more : ℕ) (own : List Parameter) (env : Environment) (name : Name) (new : Object) → InScope more own env → IsRight outer procedures (level env) own name new →
      InScope more own (declared env name new)
  scope_more more own [] name new h right = absurd (let e : 0 ≡ suc more = h.1 in omega (arith, e))
  scope_more more own (a ∷ env) name new h right = (knows_more outer procedures own a env name new h.0 right, h.1)

  scope_longer : (more : ℕ) (own : List Parameter) (p : Parameter) (env : Environment) → InScope more own env → InScope more (own ++ p ∷ []) env
  scope_longer more own p env h =
      (λ name o e. right_before procedures outer outer own p (level env) name o (λ i t s. s) (h.0 name o e), h.1)

  local_variable : (env : Environment) (i : ℕ) (t : DataType) (n : ℕ) → level env ≡ suc (suc (suc n)) → variable_in env i t ≡ LocalVariable (level env) i t
  local_variable [] i t n h = refl
  local_variable (a ∷ []) i t n h = refl
  local_variable (a ∷ b ∷ []) i t n h = absurd (let e : 2 ≡ suc (suc (suc n)) = h in omega (arith, e))
  local_variable (a ∷ b ∷ c ∷ env) i t n h = refl

  local_right : (own : List Parameter) (name : Name) (here there i : ℕ) (t : DataType) → there ≤ here → Stands own name i t → IsRight outer procedures here own name (LocalVariable there i t)
  local_right own name here there i t le s = (le, λ e. s)

  scope_variable : (n : ℕ) (own : List Parameter) (env : Environment) (name : Name) (i : ℕ) (t : DataType) → InScope (suc (suc n)) own env → Stands own name i t →
      InScope (suc (suc n)) own (declared env name (variable_in env i t))
  scope_variable n own env name i t h s =
      scope_more (suc (suc n)) own env name (variable_in env i t) h
      (subst (IsRight outer procedures (level env) own name) (sym (local_variable env i t n h.1)) (local_right own name (level env) (level env) i t (omega arith) s))

  -- the parameters of a procedure: their scope is to stand in the one that has the procedure's name

  abbrev InHeading : Environment → ℕ → List Parameter → Environment → Type 0
  InHeading target n own env = Knows outer procedures own (inner_scope env target) × ((level env ≡ suc (suc (suc n))) × (level target ≡ suc (suc n)))

  heading_longer : (target : Environment) (n : ℕ) (own : List Parameter) (p : Parameter) (env : Environment) → InHeading target n own env → InHeading target n (own ++ p ∷ []) env
  heading_longer target n own p env h =
      (λ name o e. right_before procedures outer outer own p (level (inner_scope env target)) name o (λ i t s. s) (h.0 name o e), h.1)

  heading_variable : (target : Environment) (n : ℕ) (own : List Parameter) (env : Environment) (name : Name) (i : ℕ) (t : DataType) → InHeading target n own env → Stands own name i t →
      InHeading target n own (declared env name (variable_in env i t))
  heading_variable target n own [] name i t h s = absurd (let e : 0 ≡ suc (suc (suc n)) = h.1.0 in omega (arith, e))
  heading_variable target n own (a ∷ env) name i t h s =
      let l : level (a ∷ env) ≡ suc (suc (suc n)) = h.1.0 in
      let k : level (a ∷ target) ≡ suc (suc (suc n)) = ap suc h.1.1 in (
        knows_more outer procedures own a target name (variable_in (a ∷ env) i t) h.0
            (subst (IsRight outer procedures (level (a ∷ target)) own name) (sym (local_variable (a ∷ env) i t n l))
            (local_right own name (level (a ∷ target)) (level (a ∷ env)) i t (omega (arith, l, k)) s)),
        h.1,
      )

  -- an empty scope more

  right_inside : (own : List Parameter) (here : ℕ) (name : Name) (o : Object) → IsRight outer procedures here own name o → IsRight outer procedures (suc here) [] name o
  right_inside own here name (Constant s) h = tt
  right_inside own here name (TypeName t) h = tt
  right_inside own here name (ModuleVariable i t) h = h
  right_inside own here name (LocalVariable there i t) h =
      let le = h.0 in
      (omega (arith, le), λ e. absurd (omega (arith, le, e)))
  right_inside own here name (ProcedureName n ps) h = h

  knows_inside : (own : List Parameter) (env : Environment) → Knows outer procedures own env → Knows outer procedures [] (no_names ∷ env)
  knows_inside own env h name o e = right_inside own (level env) name o (h name o e)

  -- the scope of the parameters, in the one that has the procedure's name

  all_inside : (target : Environment) (n : ℕ) (ps : List Parameter) (within : Environment) → level within ≡ suc n → AreDeclared ps within → AreDeclared ps (inner_scope within target)
  all_inside target n [] within l h = tt
  all_inside target n (p ∷ ps) [] l h = absurd (let e : 0 ≡ suc n = l in omega (arith, e))
  all_inside target n (p ∷ ps) (a ∷ within) l h = (h.0, all_inside target n ps (a ∷ within) l h.1)

  inner_level : (target : Environment) (n : ℕ) (within : Environment) → level within ≡ suc n → level (inner_scope within target) ≡ suc (level target)
  inner_level target n [] l = absurd (let e : 0 ≡ suc n = l in omega (arith, e))
  inner_level target n (a ∷ within) l = refl

  inside_heading : (target : Environment) (n : ℕ) (ps : List Parameter) (within : Environment) → Scoped (InHeading target n) ps within →
      Scoped (InScope (suc (suc n))) ps (inner_scope within target)
  inside_heading target n ps within s =
      record {
        right = (s.right.0, inner_level target (suc (suc n)) within s.right.1.0 ∙ ap suc s.right.1.1);
        named = all_inside target (suc (suc n)) ps within s.right.1.0 s.named;
        distinct = s.distinct;
      }

  mutual
    procedures_good : {env after : Environment} {n exported : ℕ} {xs : Procedures} {ps : List Procedure} → DeclaresProcedures env n exported xs after ps →
        (more : ℕ) (own : List Parameter) → InScope (suc more) own env → StandFrom n ps → InScope (suc more) own after × (AreProcedures ps × ExportsAt more xs ps)
    procedures_good Typing.none more own h stand = (h, (tt, no_exports more))
    procedures_good (Typing.procedure {env = env} {within = within} {inside = inside} {n = n} {exported = exported} {heading = heading} {inner = declarations} {body = statements} {end_name = end_name} {rest = others_in} {ps = ps} {vs = vs} {nested = nested} {others = others} {ss = ss} new params simple d body k)
        more own h stand =
        let p : Procedure = record { name = heading.name.text; is_exported = heading.is_exported; parameters = ps; variables = vs; body = ss } in
        let target = with_procedure env n heading ps in
        let here : InScope (suc more) own target =
        scope_more (suc more) own env heading.name.text (ProcedureName n ps) h (p, (first_stands n p (nested ++ others) stand, refl)) in
        let empty : Scoped (InHeading target more) [] (no_names ∷ env) =
        record { right = (knows_inside own target here.0, (ap suc h.1, here.1)); named = tt; distinct = tt } in
        let formal = inside_heading target more ps within
        (parameters_scoped (InHeading target more) (heading_longer target more) (heading_variable target more) params [] refl empty) in
        let behind = others_stand n p (nested ++ others) stand in
        let inner = declares_good d more ps refl formal (left_stand (suc n) nested others behind) in
        let good : IsProcedure program p =
        record { distinct = inner.1.0; export = simple; body = good_body outer procedures (ps ++ map as_parameter vs) inside inner.0.0 body } in
        let rest = procedures_good k more own here (right_stand (suc n) nested others behind) in (
          rest.0,
          (
            (good, both_procedures nested others inner.1.1.0 rest.1.0),
            one_more_export more env exported heading declarations statements end_name others_in p nested others new h.1 refl
                (ap (λ fs. record { name = heading.name.text; parameters = fs }) (parameters_seen params)) inner.1.1.1 rest.1.1,
          ),
        )

    declares_good : {env after : Environment} {n : ℕ} {room : Room} {d : Declarations} {vs : List Variable} {ps : List Procedure} → Declares env n room d after vs ps →
        (more : ℕ) (own : List Parameter) → length own ≡ room.names → Scoped (InScope (suc (suc more))) own env → StandFrom n ps →
        InScope (suc (suc more)) (own ++ map as_parameter vs) after × (AreDistinct (own ++ map as_parameter vs) × (AreProcedures ps × (marked ps ≡ [])))
    declares_good (Typing.declarations {vs = vs} c t v p) more own count s stand =
        let R = InScope (suc (suc more)) in
        let constants = constants_scoped R (λ own env name value h. scope_more (suc (suc more)) own env name (Constant value) h tt)
        (λ own env name t h. scope_more (suc (suc more)) own env name (TypeName t) h tt) c own s in
        let types = types_scoped R (λ own env name value h. scope_more (suc (suc more)) own env name (Constant value) h tt)
        (λ own env name t h. scope_more (suc (suc more)) own env name (TypeName t) h tt) t own constants in
        let variables = variables_scoped R (scope_longer (suc (suc more))) (scope_variable more) v own count types in
        let rest = procedures_good p (suc more) (own ++ map as_parameter vs) variables.right stand in
        (rest.0, (variables.distinct, rest.1))

  from_start : (k : ℕ) → 0 + k ≡ k
  from_start k = omega arith

  declarations_good : {after : Environment} {room : Room} {d : Declarations} {ps : List Procedure} → Declares opening_names 0 room d after program.variables ps → room.names ≡ 0 → ps ≡ procedures →
      InScope 1 outer after × (AreDistinct outer × (AreProcedures ps × (map seen (marked ps) ≡ exports_declared d)))
  declarations_good (Typing.declarations c t v p) none same =
      let R = InModule procedures in
      let empty : Scoped R [] opening_names = record { right = (opening_knows procedures, refl); named = tt; distinct = tt } in
      let constants = constants_scoped R (module_constant procedures) (module_type procedures) c [] empty in
      let types = types_scoped R (module_constant procedures) (module_type procedures) t [] constants in
      let variables = variables_scoped R (module_longer procedures) (module_variable procedures) v [] (sym none) types in
      let rest = procedures_good p 0 outer variables.right (λ k q e. ap (slice_get procedures) (from_start k) ∙ ap (λ qs. slice_get qs k) (sym same) ∙ e) in
      (rest.0, (variables.distinct, rest.1))

pub resolved : (m : Module) (program : Program.Program) → WellTyped m program → IsResolved program
resolved m program (Typing.well_typed {inside = inside} d b) =
    let all = declarations_good program d refl refl in
    record {
      distinct = all.1.0;
      procedures = procedure_at program program.procedures all.1.1.0;
      body = good_body (module_scope program) program.procedures (module_scope program) inside all.0.0 b;
    }

pub exports_are_seen : (m : Module) (program : Program.Program) → WellTyped m program → map seen (exports program) ≡ exports_of m
exports_are_seen m program (Typing.well_typed d b) = (declarations_good program d refl refl).1.1.1
