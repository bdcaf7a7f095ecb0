-- The program of a well typed module is well formed.
use Rattle.std.proofs.Common.{◌≡◌, ℕ, suc, ◌+◌, ◌≤◌, Bool, true, false, List, [], ◌∷◌, ◌++◌, length, map, get_or, Some, refl, ap, ◌∙◌, subst, All, arith}
use Rattle.std.specs.Prelude.{slice_get, ◌||◌, not}
use Rattle.std.proofs.lemmas.Bool.{and_parts}
use Rattle.std.proofs.lemmas.List.{map-append}
use Rattle.std.proofs.lemmas.List.Elements.{All-nil, All-cons, All-head, All-tail}
use Rattle.std.proofs.lemmas.Option.{slice_get_within, get_or_from_slice_get}
use Rattle.std.proofs.lemmas.List.Sums.{sum_by-append}
use Rattle.ob_scan.specs.Lexemes.{lexemes}
use Rattle.ob_scan.proofs.TokenFacts.{lexemes_spelled}
use Rattle.ob_grammar.specs.EndNamesAndNesting.{in_declarations, in_body, differing, KeepsConditions}
use Rattle.ob_grammar.specs.Texts.{HasText}
use Rattle.ob_grammar.specs.Tree
use Rattle.ob_grammar.specs.Tree.{Module}
use Rattle.ob_typing.specs.Program
use Rattle.ob_typing.specs.Program.{Name, DataType, Simple, Array, Record, Parameter, Variable, Procedure}
use Rattle.ob_typing.specs.Scopes as Scopes
use Rattle.ob_typing.specs.Scopes.{is_simple}
use Rattle.ob_typing.specs.Declarations as Typing
use Rattle.ob_typing.specs.Declarations.{all_simple, WellTyped}
use Rattle.ob_typing.specs.ModuleText.{IsModule}
use Rattle.ob_typing.specs.Limits as Limits
use Rattle.ob_typing.specs.Limits.{KeepsFrame, KeepsLimits}
use Rattle.ob_typing.proofs.Within.{keeps_limits}
use Rattle.ob_meaning.specs.Resolved as Resolved
use Rattle.ob_meaning.specs.Resolved.{as_parameter, module_scope, IsResolved}
use Rattle.ob_meaning.proofs.ResolvedModules.{resolved}
use Rattle.ob_code_scheme.specs.Types.{Scope, Holding, extent, parameter_space, variables_scope, parameters_scope, frame_scope}
use Rattle.ob_code_scheme.specs.WellFormed.{AreFine, IsSimple, IsFineSpace, IsFineProcedure, IsWellFormed}
use Rattle.ob_code_scheme.proofs.Fine.{extent-append, parameters_words}
use Rattle.ob_code_correct.proofs.Shapes.{ShapedDeclarations, ShapedBody, module_shaped}
use Rattle.ob_code_correct.proofs.Plain.{ArePlainStatements}
use Rattle.ob_code_correct.proofs.Names.{opening_sound}
use Rattle.ob_code_correct.proofs.Typed.{both_none, body}
use Rattle.ob_code_correct.proofs.Declared.{HasFineType, most_in_expression, IsPlainProcedure, declarations}
use Rattle.ob_code_correct.proofs.Formed.{statements}
use Rattle.ob_code_correct.proofs.Held.{statements_held, fewer_words, small_type}

-- ---- scopes

variables_are : (vs : List Variable) → parameters_scope (map as_parameter vs) ≡ variables_scope vs
variables_are [] = refl
variables_are (v ∷ vs) = ap (λ (scope : Scope). Holding v.type ∷ scope) (variables_are vs)

frame_is : (p : Procedure) → parameters_scope (Resolved.scope_of p) ≡ frame_scope p
frame_is p =
    map-append parameter_space p.parameters (map as_parameter p.variables) ∙ ap (λ (scope : Scope). parameters_scope p.parameters ++ scope) (variables_are p.variables)

-- ---- limits

fewer_extent : (vs : List Variable) → extent (variables_scope vs) ≤ Limits.variable_words vs
fewer_extent [] = omega arith
fewer_extent (v ∷ vs) =
    let here = fewer_words v.type in
    let rest = fewer_extent vs in
    let sum : Limits.variable_words (v ∷ vs) ≡ (0 + Scopes.words v.type) + Limits.variable_words vs = sum_by-append (λ (w : Variable). Scopes.words w.type) (v ∷ []) vs in
    omega (arith, here, rest, sum)

simple_there : (type : DataType) → is_simple type ≡ true → IsSimple type
simple_there (Simple t) h = tt
simple_there (Array place n element) h = absurd (cc)
simple_there (Record place fields) h = absurd (cc)

space_one : (name : Name) (is_var : Bool) (type : DataType) → (is_var || is_simple type) ≡ true → IsFineSpace (parameter_space (record { name = name; is_var = is_var; type = type }))
space_one name true type h = tt
space_one name false type h = simple_there type h

abbrev IsFormal : Parameter → Type 0
IsFormal q = (q.is_var || is_simple q.type) ≡ true

spaces : (ps : List Parameter) → All IsFormal ps → All IsFineSpace (parameters_scope ps)
spaces [] h = All-nil IsFineSpace
spaces (p ∷ ps) h =
    All-cons IsFineSpace (parameter_space p) (parameters_scope ps) (space_one p.name p.is_var p.type (All-head IsFormal p ps h)) (spaces ps (All-tail IsFormal p ps h))

all_simple_there : (ps : List Parameter) → all_simple ps ≡ true → All (λ (q : Parameter). IsSimple q.type) ps
all_simple_there [] h = All-nil (λ (q : Parameter). IsSimple q.type)
all_simple_there (p ∷ ps) h =
    let both = and_parts (is_simple p.type) (all_simple ps) h in
    All-cons (λ (q : Parameter). IsSimple q.type) p ps (simple_there p.type both.0) (all_simple_there ps both.1)

exported_simple : (b s : Bool) → (not b || s) ≡ true → b ≡ true → s ≡ true
exported_simple true s h e = h
exported_simple false s h e = absurd (cc)

all_at : {A : Type 0} (P : A → Type 0) (xs : List A) (i : ℕ) (x : A) → All P xs → slice_get xs i ≡ Some x → P x
all_at P xs i x h is = subst P (get_or_from_slice_get xs i x x is) (h i x (slice_get_within xs i x is))

-- what holds of each one that is got at a number holds of all
got_all : {A : Type 0} (P : A → Type 0) (xs : List A) → ((n : ℕ) (x : A) → slice_get xs n ≡ Some x → P x) → All P xs
got_all P [] h = All-nil P
got_all P (x ∷ xs) h = All-cons P x xs (h 0 x refl) (got_all P xs (λ n y e. h (suc n) y e))

-- ---- a program

module _ (program : Program.Program) (names : IsResolved program) (limits : KeepsLimits program) where
  few : (n : ℕ) (p : Procedure) → slice_get program.procedures n ≡ Some p → length p.parameters ≤ 8
  few n p is = let k = all_at KeepsFrame program.procedures n p limits.procedures is in omega (arith, k.few)

  procedure_fine : (n : ℕ) (p : Procedure) → slice_get program.procedures n ≡ Some p → IsPlainProcedure p → IsFineProcedure program p
  procedure_fine n p is plain =
      let named = names.procedures n p is in
      let frame = all_at KeepsFrame program.procedures n p limits.procedures is in
      let values = spaces p.parameters frame.values in
      let held = statements_held (module_scope program) (Resolved.scope_of p) program.procedures few most_in_expression p.body plain.body named.body in
      let good = statements (module_scope program) (Resolved.scope_of p) program.procedures most_in_expression p.body plain.body named.body in
      let extents = extent-append (parameters_scope p.parameters) (variables_scope p.variables) in
      let words = parameters_words p.parameters values in
      let fewer = fewer_extent p.variables in
      record {
        few = frame.few;
        values = values;
        results = λ e. all_simple_there p.parameters (exported_simple p.is_exported (all_simple p.parameters) frame.export e);
        body = subst (λ (globals : Scope). AreFine globals (frame_scope p) program.procedures p.body) (variables_are program.variables)
            (subst (λ (own : Scope). AreFine (parameters_scope (module_scope program)) own program.procedures p.body) (frame_is p) good);
        small_parameters = λ k d below. small_type (get_or p.parameters k d).type (plain.parameters k d below);
        small_variables = λ k d below. small_type (get_or p.variables k d).type (plain.variables k d below);
        frame = omega (arith, extents, words, fewer, frame.frame);
        temporaries = omega (arith, held);
      }

  formed : (bound : ℕ) → All IsPlainProcedure program.procedures → ArePlainStatements bound program.body → All HasFineType program.variables → IsWellFormed program
  formed bound procedures plain variables =
      let good = statements (module_scope program) (module_scope program) program.procedures bound program.body plain names.body in
      let fewer = fewer_extent program.variables in
      record {
        procedures = got_all (IsFineProcedure program) program.procedures (λ n p is. procedure_fine n p is (all_at IsPlainProcedure program.procedures n p procedures is));
        body = subst (λ (scope : Scope). AreFine scope scope program.procedures program.body) (variables_are program.variables) good;
        small = λ k d below. small_type (get_or program.variables k d).type (variables k d below);
        variables = omega (arith, fewer, limits.variables);
      }

typed_formed : (m : Module) (program : Program.Program) → ShapedDeclarations m.declarations → ShapedBody m.body → KeepsConditions m → WellTyped m program → IsWellFormed program
typed_formed m program shaped shaped_body keeps (Typing.well_typed {inside = inside} d b) =
    let parts = both_none (in_declarations 0 m.declarations) (in_body 0 m.body ++ differing m.name m.end_name) keeps in
    let last = both_none (in_body 0 m.body) (differing m.name m.end_name) parts.1 in
    let left = declarations d 0 100 (omega arith) parts.0 shaped opening_sound in
    let plain = body inside left.sound 404 b 0 100 (omega arith) (omega arith) last.0 shaped_body in
    let whole : WellTyped m program = Typing.well_typed d b in
    formed program (resolved m program whole) (keeps_limits m program whole) 404 left.procedures plain left.variables

pub well_formed : (m : Module) (program : Program.Program) → HasText m → KeepsConditions m → WellTyped m program → IsWellFormed program
well_formed m program text keeps typed =
    let shaped = module_shaped text.derives text.spelled in
    typed_formed m program shaped.0 shaped.1 keeps typed

pub module_formed : (text : List ℕ) (program : Program.Program) → IsModule text program → IsWellFormed program
module_formed text program m =
    well_formed m.tree program (record { tokens = lexemes text m.text_of.tokens; spelled = lexemes_spelled m.text_of.scanned; derives = m.text_of.derives }) m.text_of.keeps m.typed
