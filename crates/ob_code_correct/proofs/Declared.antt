-- What the declarations of a module's text leave: sound names, types within the limits, and procedures with plain bodies.
use Rattle.std.proofs.Common.{◌≡◌, ℕ, suc, ◌+◌, ◌*◌, ◌≤◌, Bool, true, false, List, [], ◌∷◌, ◌++◌, length, if◌then◌else◌, Option, Some, None, refl, All, arith}
use Rattle.std.specs.Prelude.{ℤ, pos, negsuc, ◌&&◌, flat_map, nat_le}
use Rattle.std.proofs.lemmas.Bool.{and_parts, leb-true}
use Rattle.std.proofs.lemmas.List.Elements.{All-nil, All-cons, All-append}
use Rattle.ob_interface.specs.declared.scalar.Scalar.{Scalar}
use Rattle.ob_grammar.specs.EndNamesAndNesting.{opening, in_expr, in_body, in_constants, in_types, in_variables, in_parameters, in_declarations, in_procedures, differing}
use Rattle.ob_grammar.specs.Tree
use Rattle.ob_grammar.specs.Tree.{TypeExpr, FieldLists, ConstDecl, TypeDecl, VarDecl, DeclarationPart, Section, Declarations, Procedures}
use Rattle.ob_typing.specs.Program
use Rattle.ob_typing.specs.Program.{DataType, Fields, Parameter, Variable, Procedure}
use Rattle.ob_typing.specs.Scopes.{Constant, TypeName, ProcedureName, Environment, declared, variable_in, words}
use Rattle.ob_typing.specs.Expressions as Expressions
use Rattle.ob_typing.specs.Expressions.{HasConstant}
use Rattle.ob_typing.specs.Types as Types
use Rattle.ob_typing.specs.Types.{array_length, with_fields, Denotes, Builds, DenotesFields}
use Rattle.ob_typing.specs.Declarations as Typing
use Rattle.ob_typing.specs.Declarations.{declared_by, Room, with_words, with_variables, variables_of, with_parameters, parameters_of, with_procedure, Constants, Variables, Parameters, DeclaresProcedures, Declares}
use Rattle.ob_code_correct.proofs.Shapes.{Shaped, ShapedConstants, ShapedPart, ShapedDeclarations, ShapedProcedures}
use Rattle.ob_code_correct.proofs.Plain.{ArePlainStatements, IsBuilt, AreBuilt}
use Rattle.ob_code_correct.proofs.Names.{IsFineType, AreSound, sound_more, sound_inside, sound_inner, variable_sound, type_sound}
use Rattle.ob_code_correct.proofs.Ranges.{IsInRangeIf}
use Rattle.ob_code_correct.proofs.Typed.{both_none, deeper, typed, body}

-- ---- types

long_if : (b : Bool) (n length : ℕ) → (b ≡ true → 1 ≤ n) → (if b then Some n else None) ≡ Some length → 1 ≤ length
long_if true n length h e = let same : n ≡ length = cc in omega (arith, same, h refl)
long_if false n length h e = absurd (cc)

long : (z : ℤ) (length : ℕ) → array_length z ≡ Some length → 1 ≤ length
long (pos n) length e = long_if (nat_le 1 n && nat_le n 4096) n length (λ b. leb-true 1 n (and_parts (nat_le 1 n) (nat_le n 4096) b).0) e
long (negsuc n) length e = absurd (cc)

fields_built : (names : List Tree.Name) (t : DataType) (rest : Fields) → IsBuilt t → AreBuilt rest → AreBuilt (with_fields names t rest)
fields_built [] t rest h k = k
fields_built (name ∷ names) t rest h k = (h, fields_built names t rest h k)

module _ (env : Environment) (sound : AreSound env) where
  mutual
    pub denoted : {e : TypeExpr} {t : DataType} → Denotes env e t → IsFineType t
    denoted (Types.called {name = name} {t = t} m) = type_sound env name.text t sound m
    denoted (Types.built h small) = (built h, small)

    built : {e : TypeExpr} {t : DataType} → Builds env e t → IsBuilt t
    built (Types.array {length = length} {z = z} c is h) = (long z length is, (denoted h).0)
    built (Types.record' h) = fields h

    fields : {taken : _} {lists : FieldLists} {fs : Fields} → DenotesFields env taken lists fs → AreBuilt fs
    fields Types.none = tt
    fields (Types.empty h) = fields h
    fields (Types.of_type {names = names} {t = t} {fields = fs} new h rest) = fields_built names t fs (denoted h).0 (fields rest)

-- ---- constants, types, variables and parameters

value_of : {env : Environment} {e : Tree.Expr} {s : Scalar} → AreSound env → HasConstant env e s → (n k : ℕ) → n + k ≡ 100 → in_expr n e ≡ [] → Shaped 3 e → IsInRangeIf (Some s)
value_of {env = env} sound (Expressions.constant h) n k all none shape = (typed env sound h n k 3 all none shape).value

constants : {env after : Environment} {xs : List ConstDecl} → Constants env xs after → (n k : ℕ) → n + k ≡ 100 → flat_map (λ (c : ConstDecl). in_expr n c.value) xs ≡ [] → ShapedConstants xs → AreSound env → AreSound after
constants Typing.none n k all none shape sound = sound
constants (Typing.more {env = env} {x = x} {xs = xs} {s = s} new h later) n k all none shape sound =
    let parts = both_none (in_expr n x.value) (flat_map (λ (c : ConstDecl). in_expr n c.value) xs) none in
    constants later n k all parts.1 shape.1 (sound_more env x.name.text (Constant s) sound (value_of sound h n k all parts.0 shape.0))

constant_part : {env after : Environment} (x : Option (DeclarationPart ConstDecl)) → Constants env (declared_by x) after → (n k : ℕ) → n + k ≡ 100 → in_constants n x ≡ [] → ShapedPart x → AreSound env → AreSound after
constant_part None h n k all none shape sound = constants h n k all refl tt sound
constant_part (Some part) h n k all none shape sound = constants h n k all none shape sound

types : {env after : Environment} {xs : List TypeDecl} → Typing.Types env xs after → AreSound env → AreSound after
types Typing.none sound = sound
types (Typing.more {env = env} {x = x} {t = t} new h later) sound =
    types later (sound_more env x.name.text (TypeName t) sound (denoted env sound h))

abbrev pub HasFineType : Variable → Type 0
HasFineType v = IsFineType v.type

abbrev pub IsOfFineType : Parameter → Type 0
IsOfFineType q = IsFineType q.type

variables_sound : (env : Environment) (room : Room) (t : DataType) (names : List Tree.Name) → AreSound env → AreSound (with_variables env room t names)
variables_sound env room t [] sound = sound
variables_sound env room t (name ∷ names) sound =
    variables_sound (declared env name.text (variable_in env room.names t)) (with_words room (words t)) t names
    (sound_more env name.text (variable_in env room.names t) sound (variable_sound env room.names t))

variables_fine : (t : DataType) (names : List Tree.Name) → IsFineType t → All HasFineType (variables_of t names)
variables_fine t [] h = All-nil HasFineType
variables_fine t (name ∷ names) h = All-cons HasFineType (record { name = name.text; type = t }) (variables_of t names) h (variables_fine t names h)

variables : {env after : Environment} {room : Room} {xs : List VarDecl} {vs : List Variable} → Variables env room xs after vs → AreSound env → AreSound after × All HasFineType vs
variables Typing.none sound = (sound, All-nil HasFineType)
variables (Typing.more {env = env} {room = room} {x = x} {t = t} {vs = vs} new h small later) sound =
    let fine = denoted env sound h in
    let rest = variables later (variables_sound env room t x.names sound) in
    (rest.0, All-append HasFineType (variables_of t x.names) vs (variables_fine t x.names fine) rest.1)

parameters_sound : (env : Environment) (count : ℕ) (t : DataType) (names : List Tree.Name) → AreSound env → AreSound (with_parameters env count t names)
parameters_sound env count t [] sound = sound
parameters_sound env count t (name ∷ names) sound =
    parameters_sound (declared env name.text (variable_in env count t)) (suc count) t names
    (sound_more env name.text (variable_in env count t) sound (variable_sound env count t))

parameters_fine : (is_var : Bool) (t : DataType) (names : List Tree.Name) → IsFineType t → All IsOfFineType (parameters_of is_var t names)
parameters_fine is_var t [] h = All-nil IsOfFineType
parameters_fine is_var t (name ∷ names) h =
    All-cons IsOfFineType (record { name = name.text; is_var = is_var; type = t }) (parameters_of is_var t names) h (parameters_fine is_var t names h)

parameters : {env after : Environment} {count : ℕ} {xs : List Section} {ps : List Parameter} → Parameters env count xs after ps → AreSound env → AreSound after × All IsOfFineType ps
parameters Typing.none sound = (sound, All-nil IsOfFineType)
parameters (Typing.more {env = env} {count = count} {x = x} {t = t} {ps = ps} new h named simple later) sound =
    let fine = denoted env sound h in
    let rest = parameters later (parameters_sound env count t x.names sound) in
    (rest.0, All-append IsOfFineType (parameters_of x.is_var t x.names) ps (parameters_fine x.is_var t x.names fine) rest.1)

-- ---- procedures

-- an expression of a procedure's body stands within the procedure, so it holds at most 4 words at each of 100 depths
abbrev pub most_in_expression : ℕ
most_in_expression = 400

pub record IsPlainProcedure (p : Procedure) : Type 0 where
  pub body : ArePlainStatements most_in_expression p.body
  pub parameters : All IsOfFineType p.parameters
  pub variables : All HasFineType p.variables

-- what declarations leave
pub record Leaves (after : Environment) (vs : List Variable) (ps : List Procedure) : Type 0 where
  pub sound : AreSound after
  pub variables : All HasFineType vs
  pub procedures : All IsPlainProcedure ps

mutual
  procedures : {env after : Environment} {n exported : ℕ} {xs : Procedures} {ps : List Procedure} → DeclaresProcedures env n exported xs after ps →
      (m k : ℕ) → m + k ≡ 100 → in_procedures m xs ≡ [] → ShapedProcedures xs → AreSound env → AreSound after × All IsPlainProcedure ps
  procedures Typing.none m k all none shape sound = (sound, All-nil IsPlainProcedure)
  procedures (Typing.procedure {env = env} {within = within} {n = n} {heading = heading} {inner = inner} {body = statements} {end_name = end_name} {rest = rest} {ps = ps} {nested = nested} {others = others} new formal simple d b later) m k all none shape sound =
      let parts = both_none ((opening m heading.place ++ in_parameters (m + 1) heading.parameters) ++ (in_declarations (m + 1) inner ++ (in_body (m + 1) statements ++ differing heading.name end_name))) (in_procedures m rest) none in
      let here = both_none (opening m heading.place ++ in_parameters (m + 1) heading.parameters) (in_declarations (m + 1) inner ++ (in_body (m + 1) statements ++ differing heading.name end_name)) parts.0 in
      let head = both_none (opening m heading.place) (in_parameters (m + 1) heading.parameters) here.0 in
      let behind = both_none (in_declarations (m + 1) inner) (in_body (m + 1) statements ++ differing heading.name end_name) here.1 in
      let last = both_none (in_body (m + 1) statements) (differing heading.name end_name) behind.1 in
      let down = deeper m k heading.place all head.0 in
      let target = with_procedure env n heading ps in
      let known : AreSound target = sound_more env heading.name.text (ProcedureName n ps) sound tt in
      let given = parameters formal (sound_inside env sound) in
      let inside = declarations d (m + 1) down.left down.all behind.0 shape.0 (sound_inner within target given.0 known) in
      let rest_of = procedures later m k all parts.1 shape.2 known in
      let few : 4 + 4 * down.left ≤ most_in_expression = omega (arith, down.all) in
      let own : IsPlainProcedure _ = record {
        body = body _ inside.sound most_in_expression b (m + 1) down.left down.all few last.0 shape.1;
        parameters = given.1;
        variables = inside.variables;
      } in
      (rest_of.0, All-cons IsPlainProcedure _ (nested ++ others) own (All-append IsPlainProcedure nested others inside.procedures rest_of.1))

  pub declarations : {env after : Environment} {n : ℕ} {room : Room} {d : Declarations} {vs : List Variable} {ps : List Procedure} → Declares env n room d after vs ps →
      (m k : ℕ) → m + k ≡ 100 → in_declarations m d ≡ [] → ShapedDeclarations d → AreSound env → Leaves after vs ps
  declarations (Typing.declarations {constants = cs} {types = ts} {variables = xs} {procedures = ps} c t v p) m k all none shape sound =
      let first = both_none (in_constants m cs) (in_types m ts ++ (in_variables m xs ++ in_procedures m ps)) none in
      let second = both_none (in_types m ts) (in_variables m xs ++ in_procedures m ps) first.1 in
      let third = both_none (in_variables m xs) (in_procedures m ps) second.1 in
      let named = variables v (types t (constant_part cs c m k all first.0 shape.0 sound)) in
      let rest = procedures p m k all third.1 shape.1 named.0 in
      record { sound = rest.0; variables = named.1; procedures = rest.1 }
