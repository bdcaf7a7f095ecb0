-- The module of a text has a verdict: it is well typed, or it breaks a rule.
use Rattle.std.proofs.Common.{ℕ, suc, ◌+◌, ◌-◌, List, [], ◌∷◌, length, Option, ◌⊎◌, inl, inr}
use Rattle.std.specs.Prelude.{not, ◌||◌}
use Rattle.ob_scan.specs.declared.token.Kind.{Kind}
use Rattle.ob_grammar.specs.Tree
use Rattle.ob_grammar.specs.Tree.{Stmts, ConstDecl, TypeDecl, VarDecl, DeclarationPart, Section, Heading, Declarations, Procedures, Module}
use Rattle.ob_grammar.specs.Texts.{HasText}
use Rattle.ob_grammar.specs.Grammar as Grammar
use Rattle.ob_grammar.specs.Grammar.{Lexemes, Phrase, Each, Separated, Perhaps, PartBehind, ConstDeclaration, TypeDeclaration, VarDeclaration, FPSection, FormalParameters, ProcedureHeading, DeclarationsPart, ProcedureDeclaration, ProcedureDeclarations, Derives}
use Rattle.ob_typing.specs.declared.rule.Rule.TheVariants.{DeclaredTwice, TypesDiffer, PassesLimit, BadExport}
use Rattle.ob_typing.specs.declared.rule.BrokenRule.{BrokenRule}
use Rattle.ob_typing.specs.Program as Programs
use Rattle.ob_typing.specs.Scopes.{Constant, TypeName, Environment, no_names, is_declared, declared, opening_names, is_simple, words}
use Rattle.ob_typing.specs.Types.{second}
use Rattle.ob_typing.specs.Statements.{listed}
use Rattle.ob_typing.specs.TypeFaults.{type_place}
use Rattle.ob_typing.specs.Declarations.{declared_by, Room, module_room, frame_room, first_beyond, with_variables, room_behind, with_parameters, most_parameters, all_simple, exports_behind, inner_scope, with_procedure, WellTyped}
use Rattle.ob_typing.specs.DeclarationFaults.{parameter_broken, heading_broken, Breaks}
use Rattle.ob_typing.specs.Verdict.{Verdict, Right, Wrong, Foreign}
use Rattle.ob_typing.proofs.Told.{Told}
use Rattle.ob_typing.proofs.ToldModules.{module_told}
use Rattle.ob_typing.specs.TypeVerdicts.{constant, denoted, formal}
use Rattle.ob_typing.specs.StatementVerdicts.{body_checked}
use Rattle.ob_typing.specs.ModuleVerdicts.{constants, types, variables, parameters, procedures, declarations, checked}
use Rattle.ob_typing.proofs.Decided.{Has, Any, has_step, has_test, has_unless, has_unless_name, has_unless_broken}
use Rattle.ob_typing.proofs.DecidedExpressions.{expression_decided}
use Rattle.ob_typing.proofs.DecidedStatements.{constant_decided, type_decided, formal_decided, body_decided}

constants_decided : {a b : Lexemes} {xs : List ConstDecl} → Each ConstDeclaration a xs b → (env : Environment) → Has Any (constants xs env)
constants_decided Grammar.none env = tt
constants_decided (Grammar.more {x = x} {xs = xs} (Grammar.constant n e h s) k) env =
    has_test Any (not (is_declared env x.name.text)) DeclaredTwice x.name.place _
    (λ new. has_step Any Any (constant env x.value) _ (constant_decided env x.value (expression_decided env h))
    (λ v l. constants_decided k (declared env x.name.text (Constant v))))

types_decided : {a b : Lexemes} {xs : List TypeDecl} → Each TypeDeclaration a xs b → (env : Environment) → Has Any (types xs env)
types_decided Grammar.none env = tt
types_decided (Grammar.more {x = x} {xs = xs} (Grammar.type' n e h s) k) env =
    has_test Any (not (is_declared env x.name.text)) DeclaredTwice x.name.place _
    (λ new. has_step Any Any (denoted env x.definition) _ (type_decided env h)
    (λ t l. types_decided k (declared env x.name.text (TypeName t))))

variables_decided : {a b : Lexemes} {xs : List VarDecl} → Each VarDeclaration a xs b → (env : Environment) (room : Room) → Has Any (variables xs env room)
variables_decided Grammar.none env room = tt
variables_decided (Grammar.more {x = x} {xs = xs} (Grammar.variables n c h s) k) env room =
    has_unless_name Any (second (is_declared env) x.names) DeclaredTwice _
    (has_step Any Any (denoted env x.of_type) _ (type_decided env h)
    (λ t l. has_unless_name Any (first_beyond room (words t) x.names) PassesLimit _
    (has_step Any Any (variables xs (with_variables env room t x.names) (room_behind room t x.names)) _
    (variables_decided k (with_variables env room t x.names) (room_behind room t x.names)) (λ d m. tt))))

abbrev SectionsDecided : List Section → Type 0
SectionsDecided xs = (env : Environment) (count : ℕ) → Has Any (parameters xs env count)

section_has : {a b : Lexemes} (x : Section) (xs : List Section) → FPSection a x b → SectionsDecided xs → SectionsDecided (x ∷ xs)
section_has x xs (Grammar.section v n c h) k env count =
    has_unless_broken Any (parameter_broken (is_declared env) (most_parameters - count) x.names) _
    (has_step Any Any (formal env x.of_type) _ (formal_decided env h)
    (λ t l. has_test Any (x.is_var || is_simple t) TypesDiffer (type_place x.of_type) _
    (λ simple. has_step Any Any (parameters xs (with_parameters env count t x.names) (count + length x.names)) _
    (k (with_parameters env count t x.names) (count + length x.names)) (λ d m. tt))))

no_section : SectionsDecided []
no_section env count = tt

sections_decided : {a b : Lexemes} {xs : List Section} → Separated Kind.Semicolon FPSection a xs b → SectionsDecided xs
sections_decided (Grammar.one {x = x} h) = section_has x [] h no_section
sections_decided (Grammar.more {x = x} {xs = xs} h s k) = section_has x xs h (sections_decided k)

formals_decided : {a b : Lexemes} {xs : List Section} → FormalParameters a xs b → SectionsDecided xs
formals_decided (Grammar.no_formal l r) = no_section
formals_decided (Grammar.sections l h r) = sections_decided h

heading_decided : {a b : Lexemes} {h : Heading} → ProcedureHeading a h b → SectionsDecided (listed h.parameters)
heading_decided (Grammar.heading {h = h} p n t k) = by k
  where
    by : {a b : Lexemes} {xs : Option (List Section)} → Perhaps FormalParameters a xs b → SectionsDecided (listed xs)
    by Grammar.absent = no_section
    by (Grammar.present k) = formals_decided k

part_decided : {A : Type 0} {a b : Lexemes} {word : Kind} (R : Phrase (List A)) (P : List A → Type 0) → P [] → ((c d : Lexemes) (xs : List A) → R c xs d → P xs) →
    {part : Option (DeclarationPart A)} → Perhaps (PartBehind word R) a part b → P (declared_by part)
part_decided R P none k Grammar.absent = none
part_decided R P none k (Grammar.present (Grammar.part at h)) = k _ _ _ h

mutual
  procedure_decided : {a b : Lexemes} (heading : Heading) (inner : Declarations) (body : Option Stmts) (end_name : Tree.Name) (rest : Procedures) →
      ProcedureDeclaration a (record { heading = heading; declarations = inner; body = body; end_name = end_name }) b →
      ((env : Environment) (n exported : ℕ) → Has Any (procedures rest env n exported)) →
      (env : Environment) (n exported : ℕ) → Has Any (procedures (Tree.procedure heading inner body end_name rest) env n exported)
  procedure_decided heading inner body end_name rest (Grammar.declares h s d b e m) k env n exported =
      has_unless Any (heading_broken env exported heading) heading.name.place _
      (λ new. has_step Any Any (parameters (listed heading.parameters) (no_names ∷ env) 0) _ (heading_decided h (no_names ∷ env) 0)
      (λ ps p. has_test Any (not heading.is_exported || all_simple ps.parameters) BadExport heading.name.place _
      (λ simple. has_step Any Any (declarations inner (inner_scope ps.env (with_procedure env n heading ps.parameters)) (suc n) (frame_room (length ps.parameters))) _
      (declarations_decided d (inner_scope ps.env (with_procedure env n heading ps.parameters)) (suc n) (frame_room (length ps.parameters)))
      (λ ds l. has_step Any Any (body_checked ds.env body) _ (body_decided ds.env b)
      (λ ss o. has_step Any Any (procedures rest (with_procedure env n heading ps.parameters) (suc n + length ds.procedures) (exports_behind exported heading)) _
      (k (with_procedure env n heading ps.parameters) (suc n + length ds.procedures) (exports_behind exported heading)) (λ others q. tt))))))

  procedures_decided : {a b : Lexemes} {xs : Procedures} → ProcedureDeclarations a xs b → (env : Environment) (n exported : ℕ) → Has Any (procedures xs env n exported)
  procedures_decided Grammar.no_more_procedures env n exported = tt
  procedures_decided (Grammar.procedure {head = heading} {inner = inner} {body = body} {end_name = end_name} {rest = rest} h s k) env n exported =
      procedure_decided heading inner body end_name rest h (procedures_decided k) env n exported

  declarations_decided : {a b : Lexemes} {d : Declarations} → DeclarationsPart a d b → (env : Environment) (n : ℕ) (room : Room) → Has Any (declarations d env n room)
  declarations_decided (Grammar.declarations {constants = cs} {types = ts} {variables = vs} {procedures = ps} c t v p) env n room =
      has_step Any Any (constants (declared_by cs) env) _
      (part_decided (Each ConstDeclaration) (λ xs. (e : Environment) → Has Any (constants xs e)) (λ e. tt) (λ a b xs h. constants_decided h) c env)
      (λ env1 h. has_step Any Any (types (declared_by ts) env1) _
      (part_decided (Each TypeDeclaration) (λ xs. (e : Environment) → Has Any (types xs e)) (λ e. tt) (λ a b xs h. types_decided h) t env1)
      (λ env2 k. has_step Any Any (variables (declared_by vs) env2 room) _
      (part_decided (Each VarDeclaration) (λ xs. (e : Environment) (r : Room) → Has Any (variables xs e r)) (λ e r. tt) (λ a b xs h. variables_decided h) v env2 room)
      (λ us l. has_step Any Any (procedures ps us.env n 0) _ (procedures_decided p us.env n 0) (λ qs m. tt))))

pub module_decided : {a b : Lexemes} {m : Module} → Grammar.ModuleText a m b → Has Any (checked m)
module_decided (Grammar.module' {m = m} w n s d b e l o) =
    has_step Any Any (declarations m.declarations opening_names 0 module_room) _ (declarations_decided d opening_names 0 module_room)
    (λ ds h. has_step Any Any (body_checked ds.env m.body) _ (body_decided ds.env b) (λ ss k. tt))

-- the module of a text is well typed, or breaks a rule
pub one_or_other : (m : Module) → HasText m → ((p : Programs.Program) × WellTyped m p) ⊎ ((fault : BrokenRule) × Breaks m fault)
one_or_other m h = by (checked m) (module_told m) (module_decided h.derives)
  where
    by : (v : Verdict Programs.Program) → Told (WellTyped m) (Breaks m) v → Has Any v → ((p : Programs.Program) × WellTyped m p) ⊎ ((fault : BrokenRule) × Breaks m fault)
    by (Right p) h k = inl (p, h)
    by (Wrong f) h k = inr (f, h)
    by Foreign h k = absurd k
