-- The verdict on a module tells its program, or the rule that it breaks first.
use Rattle.std.proofs.Common.{◌≡◌, refl, arith, ℕ, suc, ◌+◌, ◌-◌, ◌≤◌, Bool, true, false, List, [], ◌∷◌, length}
use Rattle.std.specs.Prelude.{not, ◌||◌}
use Rattle.ob_grammar.specs.Tree
use Rattle.ob_grammar.specs.Tree.{Stmts, ConstDecl, TypeDecl, VarDecl, DeclarationPart, Section, Heading, Declarations, Procedures, Module}
use Rattle.ob_typing.specs.declared.rule.Rule.TheVariants.{DeclaredTwice, TypesDiffer, PassesLimit, BadExport}
use Rattle.ob_typing.specs.declared.rule.BrokenRule.{BrokenRule}
use Rattle.ob_typing.specs.Scopes.{Constant, TypeName, Environment, no_names, is_declared, declared, opening_names, is_simple, words}
use Rattle.ob_typing.specs.Expressions.{InConstant, HasConstant}
use Rattle.ob_typing.specs.ExpressionFaults.{ExpressionFails}
use Rattle.ob_typing.specs.Types.{second, Denotes}
use Rattle.ob_typing.specs.TypeFaults.{type_place, TypeFails, FormalTypeFails}
use Rattle.ob_typing.specs.Statements.{listed, IsBody}
use Rattle.ob_typing.specs.Declarations as Typing
use Rattle.ob_typing.specs.Declarations.{declared_by, Room, module_room, frame_room, first_beyond, with_variables, room_behind, with_parameters, most_parameters, most_exports, all_simple, exports_behind, inner_scope, with_procedure, Constants, Types, Variables, Parameters, DeclaresProcedures, Declares, WellTyped}
use Rattle.ob_typing.specs.DeclarationFaults as Faults
use Rattle.ob_typing.specs.DeclarationFaults.{parameter_broken, heading_broken, ConstantsFail, TypesFail, VariablesFail, ParametersFail, BodyFails, ProceduresFail, DeclarationsFail, Breaks}
use Rattle.ob_typing.specs.Verdict.{Verdict, Right, Wrong, Foreign}
use Rattle.ob_typing.proofs.FirstFaults.{new_parameters, new_procedure}
use Rattle.ob_typing.proofs.Told.{Told, step, step_test, step_unless, step_unless_name, step_unless_broken}
use Rattle.ob_typing.specs.TypeVerdicts.{constant, denoted, formal}
use Rattle.ob_typing.specs.StatementVerdicts.{body_checked}
use Rattle.ob_typing.specs.ModuleVerdicts.{WithVariables, WithParameters, WithProcedures, WithAll, constants, types, variables, parameters, procedures, declarations, checked}
use Rattle.ob_typing.proofs.ToldTypes.{constant_told, type_told, IsFormal, formal_told}
use Rattle.ob_typing.proofs.ToldStatements.{body_told}

is_new : (b : Bool) → not b ≡ true → b ≡ false
is_new false h = refl
is_new true h = cc

is_old : (b : Bool) → not b ≡ false → b ≡ true
is_old true h = refl
is_old false h = cc

-- what is told of the last step is told of the whole
told_on : {A : Type 0} (P : A → Type 0) (Q : BrokenRule → Type 0) (R : A → Type 0) (W : BrokenRule → Type 0) (v : Verdict A) →
    Told P Q v → ((a : A) → P a → R a) → ((f : BrokenRule) → Q f → W f) → Told R W v
told_on P Q R W (Right a) h k w = k a h
told_on P Q R W (Wrong f) h k w = w f h
told_on P Q R W Foreign h k w = tt

constants_told : (xs : List ConstDecl) (env : Environment) → Told (Constants env xs) (ConstantsFail env xs) (constants xs env)
constants_told [] env = Typing.none
constants_told (x ∷ xs) env =
    let R = Constants env (x ∷ xs) in
    let W = ConstantsFail env (x ∷ xs) in
    step_test R W (not (is_declared env x.name.text)) DeclaredTwice x.name.place _
    (λ new. step R W (HasConstant env x.value) (ExpressionFails env InConstant x.value) (constant env x.value) _ (constant_told env x.value)
    (λ s h. told_on (Constants (declared env x.name.text (Constant s)) xs) (ConstantsFail (declared env x.name.text (Constant s)) xs) R W
    (constants xs (declared env x.name.text (Constant s))) (constants_told xs (declared env x.name.text (Constant s)))
    (λ after k. Typing.more (is_new _ new) h k) (λ f k. Faults.others (is_new _ new) h k))
    (λ f h. Faults.value (is_new _ new) h))
    (λ old. Faults.twice (is_old _ old))

types_told : (xs : List TypeDecl) (env : Environment) → Told (Types env xs) (TypesFail env xs) (types xs env)
types_told [] env = Typing.none
types_told (x ∷ xs) env =
    let R = Types env (x ∷ xs) in
    let W = TypesFail env (x ∷ xs) in
    step_test R W (not (is_declared env x.name.text)) DeclaredTwice x.name.place _
    (λ new. step R W (Denotes env x.definition) (TypeFails env x.definition) (denoted env x.definition) _ (type_told env x.definition)
    (λ t h. told_on (Types (declared env x.name.text (TypeName t)) xs) (TypesFail (declared env x.name.text (TypeName t)) xs) R W
    (types xs (declared env x.name.text (TypeName t))) (types_told xs (declared env x.name.text (TypeName t)))
    (λ after k. Typing.more (is_new _ new) h k) (λ f k. Faults.others (is_new _ new) h k))
    (λ f h. Faults.definition (is_new _ new) h))
    (λ old. Faults.twice (is_old _ old))

variables_told : (xs : List VarDecl) (env : Environment) (room : Room) →
    Told (λ d. Variables env room xs d.env d.variables) (VariablesFail env room xs) (variables xs env room)
variables_told [] env room = Typing.none
variables_told (x ∷ xs) env room =
    let R : WithVariables → Type 0 = λ d. Variables env room (x ∷ xs) d.env d.variables in
    let W = VariablesFail env room (x ∷ xs) in
    step_unless_name R W (second (is_declared env) x.names) DeclaredTwice _
    (λ new. step R W (Denotes env x.of_type) (TypeFails env x.of_type) (denoted env x.of_type) _ (type_told env x.of_type)
    (λ t h. step_unless_name R W (first_beyond room (words t) x.names) PassesLimit _
    (λ small. step R W (λ d. Variables (with_variables env room t x.names) (room_behind room t x.names) xs d.env d.variables)
    (VariablesFail (with_variables env room t x.names) (room_behind room t x.names) xs)
    (variables xs (with_variables env room t x.names) (room_behind room t x.names)) _
    (variables_told xs (with_variables env room t x.names) (room_behind room t x.names))
    (λ d k. Typing.more new h small k) (λ f k. Faults.others new h small k))
    (λ name beyond. Faults.beyond new h beyond))
    (λ f h. Faults.of_type new h))
    (λ name twice. Faults.twice twice)

parameters_told : (xs : List Section) (env : Environment) (count : ℕ) → count ≤ most_parameters →
    Told (λ d. Parameters env count xs d.env d.parameters) (ParametersFail env count xs) (parameters xs env count)
parameters_told [] env count few = Typing.none
parameters_told (x ∷ xs) env count few =
    let R : WithParameters → Type 0 = λ d. Parameters env count (x ∷ xs) d.env d.parameters in
    let W = ParametersFail env count (x ∷ xs) in
    step_unless_broken R W (parameter_broken (is_declared env) (most_parameters - count) x.names) _
    (λ free. let new = new_parameters env count x.names few free in
    step R W (IsFormal env x.of_type) (FormalTypeFails env x.of_type) (formal env x.of_type) _ (formal_told env x.of_type)
    (λ t h. step_test R W (x.is_var || is_simple t) TypesDiffer (type_place x.of_type) _
    (λ simple. step R W (λ d. Parameters (with_parameters env count t x.names) (count + length x.names) xs d.env d.parameters)
    (ParametersFail (with_parameters env count t x.names) (count + length x.names) xs)
    (parameters xs (with_parameters env count t x.names) (count + length x.names)) _
    (parameters_told xs (with_parameters env count t x.names) (count + length x.names) new.few)
    (λ d k. Typing.more new h.0 h.1 simple k) (λ f k. Faults.others free h.0 h.1 simple k))
    (λ simple. Faults.structured free h.0 h.1 simple))
    (λ f h. Faults.of_type free h))
    (λ f bad. Faults.name bad)

mutual
  procedures_told : (xs : Procedures) (env : Environment) (n exported : ℕ) → exported ≤ most_exports →
      Told (λ d. DeclaresProcedures env n exported xs d.env d.procedures) (ProceduresFail env n exported xs) (procedures xs env n exported)
  procedures_told Tree.no_procedure env n exported few = Typing.none
  procedures_told (Tree.procedure heading inner body end_name rest) env n exported few =
      let R : WithProcedures → Type 0 = λ d. DeclaresProcedures env n exported (Tree.procedure heading inner body end_name rest) d.env d.procedures in
      let W = ProceduresFail env n exported (Tree.procedure heading inner body end_name rest) in
      step_unless R W (heading_broken env exported heading) heading.name.place _
      (λ free. let new = new_procedure env exported heading few free in
      step R W (λ d. Parameters (no_names ∷ env) 0 (listed heading.parameters) d.env d.parameters) (ParametersFail (no_names ∷ env) 0 (listed heading.parameters))
      (parameters (listed heading.parameters) (no_names ∷ env) 0) _ (parameters_told (listed heading.parameters) (no_names ∷ env) 0 (omega arith))
      (λ ps p. step_test R W (not heading.is_exported || all_simple ps.parameters) BadExport heading.name.place _
      (λ simple. step R W
      (λ d. Declares (inner_scope ps.env (with_procedure env n heading ps.parameters)) (suc n) (frame_room (length ps.parameters)) inner d.env d.variables d.procedures)
      (DeclarationsFail (inner_scope ps.env (with_procedure env n heading ps.parameters)) (suc n) (frame_room (length ps.parameters)) inner)
      (declarations inner (inner_scope ps.env (with_procedure env n heading ps.parameters)) (suc n) (frame_room (length ps.parameters))) _
      (declarations_told inner (inner_scope ps.env (with_procedure env n heading ps.parameters)) (suc n) (frame_room (length ps.parameters)))
      (λ ds d. step R W (IsBody ds.env body) (BodyFails ds.env body) (body_checked ds.env body) _ (body_told ds.env body)
      (λ ss b. step R W
      (λ o. DeclaresProcedures (with_procedure env n heading ps.parameters) (suc n + length ds.procedures) (exports_behind exported heading) rest o.env o.procedures)
      (ProceduresFail (with_procedure env n heading ps.parameters) (suc n + length ds.procedures) (exports_behind exported heading) rest)
      (procedures rest (with_procedure env n heading ps.parameters) (suc n + length ds.procedures) (exports_behind exported heading)) _
      (procedures_told rest (with_procedure env n heading ps.parameters) (suc n + length ds.procedures) (exports_behind exported heading) new.few)
      (λ o k. Typing.procedure new p simple d b k) (λ f k. Faults.other_procedures free p simple d b k))
      (λ f b. Faults.body free p simple d b))
      (λ f d. Faults.inner free p simple d))
      (λ simple. Faults.export free p simple))
      (λ f p. Faults.parameters free p))
      (λ rule bad. Faults.name bad)

  declarations_told : (d : Declarations) (env : Environment) (n : ℕ) (room : Room) →
      Told (λ x. Declares env n room d x.env x.variables x.procedures) (DeclarationsFail env n room d) (declarations d env n room)
  declarations_told (Tree.Declared cs ts vs ps) env n room =
      let R : WithAll → Type 0 = λ x. Declares env n room (Tree.Declared cs ts vs ps) x.env x.variables x.procedures in
      let W = DeclarationsFail env n room (Tree.Declared cs ts vs ps) in
      step R W (Constants env (declared_by cs)) (ConstantsFail env (declared_by cs)) (constants (declared_by cs) env) _ (constants_told (declared_by cs) env)
      (λ env1 c. step R W (Types env1 (declared_by ts)) (TypesFail env1 (declared_by ts)) (types (declared_by ts) env1) _ (types_told (declared_by ts) env1)
      (λ env2 t. step R W (λ d. Variables env2 room (declared_by vs) d.env d.variables) (VariablesFail env2 room (declared_by vs)) (variables (declared_by vs) env2 room) _
      (variables_told (declared_by vs) env2 room)
      (λ us v. step R W (λ q. DeclaresProcedures us.env n 0 ps q.env q.procedures) (ProceduresFail us.env n 0 ps) (procedures ps us.env n 0) _
      (procedures_told ps us.env n 0 (omega arith))
      (λ qs p. Typing.declarations c t v p) (λ f p. Faults.procedures c t v p))
      (λ f v. Faults.variables c t v))
      (λ f t. Faults.types c t))
      (λ f c. Faults.constants c)

pub module_told : (m : Module) → Told (WellTyped m) (Breaks m) (checked m)
module_told m =
    step (WellTyped m) (Breaks m)
    (λ x. Declares opening_names 0 module_room m.declarations x.env x.variables x.procedures) (DeclarationsFail opening_names 0 module_room m.declarations)
    (declarations m.declarations opening_names 0 module_room) _ (declarations_told m.declarations opening_names 0 module_room)
    (λ ds d. step (WellTyped m) (Breaks m) (IsBody ds.env m.body) (BodyFails ds.env m.body) (body_checked ds.env m.body) _ (body_told ds.env m.body)
    (λ ss b. Typing.well_typed d b) (λ f b. Faults.in_body d b))
    (λ f d. Faults.in_declarations d)
