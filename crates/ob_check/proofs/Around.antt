-- Declarations change the innermost scope alone.
use Rattle.std.proofs.Common.{◌≡◌, refl, subst, ◌∙◌, ℕ, suc, ◌+◌, ◌-◌, List, [], ◌∷◌, length}
use Rattle.std.specs.Prelude.{not, ◌||◌}
use Rattle.ob_grammar.specs.Tree
use Rattle.ob_grammar.specs.Tree.{ConstDecl, TypeDecl, VarDecl, Section, Procedures, Declarations}
use Rattle.ob_typing.specs.declared.rule.Rule.TheVariants.{DeclaredTwice, TypesDiffer, PassesLimit, BadExport}
use Rattle.ob_typing.specs.declared.rule.BrokenRule.{BrokenRule}
use Rattle.ob_typing.specs.Program.{Name, DataType}
use Rattle.ob_typing.specs.Scopes.{Object, Constant, TypeName, Environment, no_names, is_declared, declared, variable_in, is_simple, words}
use Rattle.ob_typing.specs.Types.{second}
use Rattle.ob_typing.specs.TypeFaults.{type_place}
use Rattle.ob_typing.specs.Statements.{listed}
use Rattle.ob_typing.specs.Declarations.{declared_by, Room, with_words, frame_room, first_beyond, with_variables, room_behind, with_parameters, most_parameters, all_simple, exports_behind, inner_scope, with_procedure}
use Rattle.ob_typing.specs.DeclarationFaults.{parameter_broken, heading_broken}
use Rattle.ob_typing.specs.Verdict.{Verdict, Right, Wrong, Foreign}
use Rattle.ob_typing.proofs.Told.{Told, step, step_test, step_unless, step_unless_name, step_unless_broken}
use Rattle.ob_typing.specs.TypeVerdicts.{constant, denoted, formal}
use Rattle.ob_typing.specs.StatementVerdicts.{body_checked}
use Rattle.ob_typing.specs.ModuleVerdicts.{WithVariables, WithParameters, WithProcedures, WithAll, constants, types, variables, parameters, procedures, declarations}
use Rattle.ob_check.specs.CheckingProcedures.{around}

abbrev None : BrokenRule → Type 0
None f = Unit {0}

abbrev Any : {A : Type 0} → A → Type 0
Any a = Unit {0}

any : {A : Type 0} (v : Verdict A) → Told Any None v
any (Right a) = tt
any (Wrong f) = tt
any Foreign = tt

-- what is told of what is right
told_right : {A : Type 0} (R : A → Type 0) (v : Verdict A) (a : A) → Told R None v → v ≡ Right a → R a
told_right {A = A} R v a t h = let P : Verdict A → Type 0 = λ w. Told R None w in subst P h t

declared_around : (env : Environment) (name : Name) (o : Object) → around (declared env name o) ≡ around env
declared_around [] name o = refl
declared_around (scope ∷ outer) name o = refl

constants_around : (xs : List ConstDecl) (env : Environment) → Told (λ after. around after ≡ around env) None (constants xs env)
constants_around [] env = refl
constants_around (x ∷ xs) env =
    let R : Environment → Type 0 = λ after. around after ≡ around env in
    step_test R None (not (is_declared env x.name.text)) DeclaredTwice x.name.place _
    (λ new. step R None Any None (constant env x.value) _ (any (constant env x.value))
    (λ s h. on (λ after. around after ≡ around (declared env x.name.text (Constant s))) R (constants xs (declared env x.name.text (Constant s)))
    (constants_around xs (declared env x.name.text (Constant s))) (λ after k. k ∙ declared_around env x.name.text (Constant s)))
    (λ f h. tt))
    (λ old. tt)
  where
    on : (P Q : Environment → Type 0) (v : Verdict Environment) → Told P None v → ((a : Environment) → P a → Q a) → Told Q None v
    on P Q (Right a) h k = k a h
    on P Q (Wrong f) h k = tt
    on P Q Foreign h k = tt

types_around : (xs : List TypeDecl) (env : Environment) → Told (λ after. around after ≡ around env) None (types xs env)
types_around [] env = refl
types_around (x ∷ xs) env =
    let R : Environment → Type 0 = λ after. around after ≡ around env in
    step_test R None (not (is_declared env x.name.text)) DeclaredTwice x.name.place _
    (λ new. step R None Any None (denoted env x.definition) _ (any (denoted env x.definition))
    (λ t h. on (λ after. around after ≡ around (declared env x.name.text (TypeName t))) R (types xs (declared env x.name.text (TypeName t)))
    (types_around xs (declared env x.name.text (TypeName t))) (λ after k. k ∙ declared_around env x.name.text (TypeName t)))
    (λ f h. tt))
    (λ old. tt)
  where
    on : (P Q : Environment → Type 0) (v : Verdict Environment) → Told P None v → ((a : Environment) → P a → Q a) → Told Q None v
    on P Q (Right a) h k = k a h
    on P Q (Wrong f) h k = tt
    on P Q Foreign h k = tt

named_around : (env : Environment) (room : Room) (t : DataType) (names : List Tree.Name) → around (with_variables env room t names) ≡ around env
named_around env room t [] = refl
named_around env room t (name ∷ names) =
    named_around (declared env name.text (variable_in env room.names t)) (with_words room (words t)) t names ∙ declared_around env name.text (variable_in env room.names t)

variables_around : (xs : List VarDecl) (env : Environment) (room : Room) → Told (λ d. around d.env ≡ around env) None (variables xs env room)
variables_around [] env room = refl
variables_around (x ∷ xs) env room =
    let R : WithVariables → Type 0 = λ d. around d.env ≡ around env in
    step_unless_name R None (second (is_declared env) x.names) DeclaredTwice _
    (λ new. step R None Any None (denoted env x.of_type) _ (any (denoted env x.of_type))
    (λ t h. step_unless_name R None (first_beyond room (words t) x.names) PassesLimit _
    (λ small. step R None (λ d. around d.env ≡ around (with_variables env room t x.names)) None
    (variables xs (with_variables env room t x.names) (room_behind room t x.names)) _
    (variables_around xs (with_variables env room t x.names) (room_behind room t x.names))
    (λ d k. k ∙ named_around env room t x.names) (λ f k. tt))
    (λ name k. tt))
    (λ f h. tt))
    (λ name k. tt)

listed_around : (env : Environment) (count : ℕ) (t : DataType) (names : List Tree.Name) → around (with_parameters env count t names) ≡ around env
listed_around env count t [] = refl
listed_around env count t (name ∷ names) =
    listed_around (declared env name.text (variable_in env count t)) (suc count) t names ∙ declared_around env name.text (variable_in env count t)

parameters_around : (xs : List Section) (env : Environment) (count : ℕ) → Told (λ d. around d.env ≡ around env) None (parameters xs env count)
parameters_around [] env count = refl
parameters_around (x ∷ xs) env count =
    let R : WithParameters → Type 0 = λ d. around d.env ≡ around env in
    step_unless_broken R None (parameter_broken (is_declared env) (most_parameters - count) x.names) _
    (λ new. step R None Any None (formal env x.of_type) _ (any (formal env x.of_type))
    (λ t h. step_test R None (x.is_var || is_simple t) TypesDiffer (type_place x.of_type) _
    (λ simple. step R None (λ d. around d.env ≡ around (with_parameters env count t x.names)) None
    (parameters xs (with_parameters env count t x.names) (count + length x.names)) _
    (parameters_around xs (with_parameters env count t x.names) (count + length x.names))
    (λ d k. k ∙ listed_around env count t x.names) (λ f k. tt))
    (λ k. tt))
    (λ f h. tt))
    (λ f k. tt)

procedures_around : (xs : Procedures) (env : Environment) (n exported : ℕ) → Told (λ d. around d.env ≡ around env) None (procedures xs env n exported)
procedures_around Tree.no_procedure env n exported = refl
procedures_around (Tree.procedure heading inner body end_name rest) env n exported =
    let R : WithProcedures → Type 0 = λ d. around d.env ≡ around env in
    step_unless R None (heading_broken env exported heading) heading.name.place _
    (λ new. step R None Any None (parameters (listed heading.parameters) (no_names ∷ env) 0) _ (any (parameters (listed heading.parameters) (no_names ∷ env) 0))
    (λ ps p. step_test R None (not heading.is_exported || all_simple ps.parameters) BadExport heading.name.place _
    (λ simple. step R None Any None (declarations inner (inner_scope ps.env (with_procedure env n heading ps.parameters)) (suc n) (frame_room (length ps.parameters))) _
    (any (declarations inner (inner_scope ps.env (with_procedure env n heading ps.parameters)) (suc n) (frame_room (length ps.parameters))))
    (λ ds d. step R None Any None (body_checked ds.env body) _ (any (body_checked ds.env body))
    (λ ss b. step R None (λ o. around o.env ≡ around (with_procedure env n heading ps.parameters)) None
    (procedures rest (with_procedure env n heading ps.parameters) (suc n + length ds.procedures) (exports_behind exported heading)) _
    (procedures_around rest (with_procedure env n heading ps.parameters) (suc n + length ds.procedures) (exports_behind exported heading))
    (λ o k. k ∙ declared_around env heading.name.text _) (λ f k. tt))
    (λ f k. tt))
    (λ f k. tt))
    (λ k. tt))
    (λ f k. tt))
    (λ rule k. tt)

declarations_around : (d : Declarations) (env : Environment) (n : ℕ) (room : Room) → Told (λ x. around x.env ≡ around env) None (declarations d env n room)
declarations_around (Tree.Declared cs ts vs ps) env n room =
    let R : WithAll → Type 0 = λ x. around x.env ≡ around env in
    step R None (λ after. around after ≡ around env) None (constants (declared_by cs) env) _ (constants_around (declared_by cs) env)
    (λ env1 c. step R None (λ after. around after ≡ around env1) None (types (declared_by ts) env1) _ (types_around (declared_by ts) env1)
    (λ env2 t. step R None (λ d. around d.env ≡ around env2) None (variables (declared_by vs) env2 room) _ (variables_around (declared_by vs) env2 room)
    (λ us v. step R None (λ d. around d.env ≡ around us.env) None (procedures ps us.env n 0) _ (procedures_around ps us.env n 0)
    (λ qs p. p ∙ v ∙ t ∙ c) (λ f k. tt))
    (λ f k. tt))
    (λ f k. tt))
    (λ f k. tt)

pub parameters_right : (xs : List Section) (env : Environment) (count : ℕ) (d : WithParameters) → parameters xs env count ≡ Right d → around d.env ≡ around env
parameters_right xs env count d h = told_right (λ x. around x.env ≡ around env) (parameters xs env count) d (parameters_around xs env count) h

pub declarations_right : (d : Declarations) (env : Environment) (n : ℕ) (room : Room) (x : WithAll) → declarations d env n room ≡ Right x → around x.env ≡ around env
declarations_right d env n room x h = told_right (λ y. around y.env ≡ around env) (declarations d env n room) x (declarations_around d env n room) h
