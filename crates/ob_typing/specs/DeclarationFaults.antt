-- The rule that a declaration breaks first, and the one that a module breaks first.
use Rattle.std.specs.Prelude.{◌≡◌, ℕ, suc, pred, ◌+◌, ◌-◌, ◌&&◌, ◌||◌, not, nat_eq, true, false, if◌then◌else◌, List, [], ◌∷◌, length, Option, Some, None}
use Rattle.ob_grammar.specs.Tree
use Rattle.ob_grammar.specs.Tree.{Stmts, ConstDecl, TypeDecl, VarDecl, DeclarationPart, Section, Heading, Declarations, Procedures, Module}
use Rattle.ob_interface.specs.declared.scalar.Scalar.{Scalar}
use Rattle.ob_typing.specs.declared.rule.Rule.{Rule}
use Rattle.ob_typing.specs.declared.rule.Rule.TheVariants.{DeclaredTwice, TypesDiffer, PassesLimit, BadExport}
use Rattle.ob_typing.specs.declared.rule.BrokenRule.{BrokenRule}
use Rattle.ob_typing.specs.Program.{DataType, Statements, Parameter, Variable, Procedure}
use Rattle.ob_typing.specs.Scopes.{Constant, TypeName, Environment, no_names, is_declared, declared, opening_names, is_simple, words}
use Rattle.ob_typing.specs.Expressions.{InConstant, HasConstant}
use Rattle.ob_typing.specs.Types.{Taken, and_taken, second, Denotes}
use Rattle.ob_typing.specs.Statements.{listed, IsBody}
use Rattle.ob_typing.specs.Declarations.{declared_by, Room, module_room, frame_room, first_beyond, with_variables, room_behind, with_parameters, most_parameters, is_name, most_exports, is_nested, all_simple, exports_behind, inner_scope, with_procedure, Constants, Types, Variables, Parameters, Declares}
use Rattle.ob_typing.specs.ExpressionFaults.{broken, ExpressionFails}
use Rattle.ob_typing.specs.TypeFaults.{TypeFails, FormalTypeFails, type_place}
use Rattle.ob_typing.specs.StatementFaults.{StatementsFail}

-- the rule that the first bad name of a section breaks: it is taken, or it is one more than there is room for
abbrev pub parameter_broken : Taken → ℕ → List Tree.Name → Option BrokenRule
parameter_broken taken left [] = None
parameter_broken taken left (name ∷ names) =
    if taken name.text then Some (broken DeclaredTwice name.place)
    else if nat_eq left 0 then Some (broken PassesLimit name.place)
    else parameter_broken (and_taken taken name.text) (pred left) names

-- the rule that a procedure's name breaks behind so many exports
abbrev pub heading_broken : Environment → ℕ → Heading → Option Rule
heading_broken env exported heading =
    if is_declared env heading.name.text then Some DeclaredTwice
    else if heading.is_exported && is_nested env then Some BadExport
    else if heading.is_exported && nat_eq exported most_exports then Some PassesLimit
    else None

pub data ConstantsFail : Environment → List ConstDecl → BrokenRule → Type 0 where
  twice : {env : Environment} {x : ConstDecl} {xs : List ConstDecl} →
      is_declared env x.name.text ≡ true → ConstantsFail env (x ∷ xs) (broken DeclaredTwice x.name.place)
  value : {env : Environment} {x : ConstDecl} {xs : List ConstDecl} {fault : BrokenRule} →
      is_declared env x.name.text ≡ false → ExpressionFails env InConstant x.value fault → ConstantsFail env (x ∷ xs) fault
  others : {env : Environment} {x : ConstDecl} {xs : List ConstDecl} {s : Scalar} {fault : BrokenRule} →
      is_declared env x.name.text ≡ false → HasConstant env x.value s →
      ConstantsFail (declared env x.name.text (Constant s)) xs fault → ConstantsFail env (x ∷ xs) fault

pub data TypesFail : Environment → List TypeDecl → BrokenRule → Type 0 where
  twice : {env : Environment} {x : TypeDecl} {xs : List TypeDecl} →
      is_declared env x.name.text ≡ true → TypesFail env (x ∷ xs) (broken DeclaredTwice x.name.place)
  definition : {env : Environment} {x : TypeDecl} {xs : List TypeDecl} {fault : BrokenRule} →
      is_declared env x.name.text ≡ false → TypeFails env x.definition fault → TypesFail env (x ∷ xs) fault
  others : {env : Environment} {x : TypeDecl} {xs : List TypeDecl} {t : DataType} {fault : BrokenRule} →
      is_declared env x.name.text ≡ false → Denotes env x.definition t →
      TypesFail (declared env x.name.text (TypeName t)) xs fault → TypesFail env (x ∷ xs) fault

pub data VariablesFail : Environment → Room → List VarDecl → BrokenRule → Type 0 where
  -- before the type is looked at
  twice : {env : Environment} {room : Room} {x : VarDecl} {xs : List VarDecl} {name : Tree.Name} →
      second (is_declared env) x.names ≡ Some name → VariablesFail env room (x ∷ xs) (broken DeclaredTwice name.place)
  of_type : {env : Environment} {room : Room} {x : VarDecl} {xs : List VarDecl} {fault : BrokenRule} →
      second (is_declared env) x.names ≡ None → TypeFails env x.of_type fault → VariablesFail env room (x ∷ xs) fault
  -- a variable for which there is no room, known behind the type, at its name
  beyond : {env : Environment} {room : Room} {x : VarDecl} {xs : List VarDecl} {t : DataType} {name : Tree.Name} →
      second (is_declared env) x.names ≡ None → Denotes env x.of_type t → first_beyond room (words t) x.names ≡ Some name →
      VariablesFail env room (x ∷ xs) (broken PassesLimit name.place)
  others : {env : Environment} {room : Room} {x : VarDecl} {xs : List VarDecl} {t : DataType} {fault : BrokenRule} →
      second (is_declared env) x.names ≡ None → Denotes env x.of_type t → first_beyond room (words t) x.names ≡ None →
      VariablesFail (with_variables env room t x.names) (room_behind room t x.names) xs fault →
      VariablesFail env room (x ∷ xs) fault

-- behind so many parameters
pub data ParametersFail : Environment → ℕ → List Section → BrokenRule → Type 0 where
  -- a name twice, or a ninth one, before the type is looked at
  name : {env : Environment} {count : ℕ} {x : Section} {xs : List Section} {fault : BrokenRule} →
      parameter_broken (is_declared env) (most_parameters - count) x.names ≡ Some fault → ParametersFail env count (x ∷ xs) fault
  of_type : {env : Environment} {count : ℕ} {x : Section} {xs : List Section} {fault : BrokenRule} →
      parameter_broken (is_declared env) (most_parameters - count) x.names ≡ None → FormalTypeFails env x.of_type fault →
      ParametersFail env count (x ∷ xs) fault
  -- a structured value parameter, at its type
  structured : {env : Environment} {count : ℕ} {x : Section} {xs : List Section} {t : DataType} →
      parameter_broken (is_declared env) (most_parameters - count) x.names ≡ None → Denotes env x.of_type t → is_name x.of_type ≡ true →
      (x.is_var || is_simple t) ≡ false → ParametersFail env count (x ∷ xs) (broken TypesDiffer (type_place x.of_type))
  others : {env : Environment} {count : ℕ} {x : Section} {xs : List Section} {t : DataType} {fault : BrokenRule} →
      parameter_broken (is_declared env) (most_parameters - count) x.names ≡ None → Denotes env x.of_type t → is_name x.of_type ≡ true →
      (x.is_var || is_simple t) ≡ true → ParametersFail (with_parameters env count t x.names) (count + length x.names) xs fault →
      ParametersFail env count (x ∷ xs) fault

-- ["BEGIN" StatementSequence]
pub data BodyFails (env : Environment) : Option Stmts → BrokenRule → Type 0 where
  some : {body : Stmts} {fault : BrokenRule} → StatementsFail env body fault → BodyFails env (Some body) fault

mutual
  pub data ProceduresFail : Environment → (n exported : ℕ) → Procedures → BrokenRule → Type 0 where
    name : {env : Environment} {n exported : ℕ} {heading : Heading} {inner : Declarations} {body : Option Stmts} {end_name : Tree.Name} {rest : Procedures} {rule : Rule} →
        heading_broken env exported heading ≡ Some rule →
        ProceduresFail env n exported (Tree.procedure heading inner body end_name rest) (broken rule heading.name.place)
    parameters : {env : Environment} {n exported : ℕ} {heading : Heading} {inner : Declarations} {body : Option Stmts} {end_name : Tree.Name} {rest : Procedures} {fault : BrokenRule} →
        heading_broken env exported heading ≡ None → ParametersFail (no_names ∷ env) 0 (listed heading.parameters) fault →
        ProceduresFail env n exported (Tree.procedure heading inner body end_name rest) fault
    -- an export with a structured parameter, at the heading's end, at its name
    export : {env within : Environment} {n exported : ℕ} {heading : Heading} {inner : Declarations} {body : Option Stmts} {end_name : Tree.Name} {rest : Procedures} {ps : List Parameter} →
        heading_broken env exported heading ≡ None → Parameters (no_names ∷ env) 0 (listed heading.parameters) within ps →
        (not heading.is_exported || all_simple ps) ≡ false →
        ProceduresFail env n exported (Tree.procedure heading inner body end_name rest) (broken BadExport heading.name.place)
    inner : {env within : Environment} {n exported : ℕ} {heading : Heading} {inner : Declarations} {body : Option Stmts} {end_name : Tree.Name} {rest : Procedures} {ps : List Parameter} {fault : BrokenRule} →
        heading_broken env exported heading ≡ None → Parameters (no_names ∷ env) 0 (listed heading.parameters) within ps →
        (not heading.is_exported || all_simple ps) ≡ true →
        DeclarationsFail (inner_scope within (with_procedure env n heading ps)) (suc n) (frame_room (length ps)) inner fault →
        ProceduresFail env n exported (Tree.procedure heading inner body end_name rest) fault
    body : {env within inside : Environment} {n exported : ℕ} {heading : Heading} {inner : Declarations} {body : Option Stmts} {end_name : Tree.Name} {rest : Procedures} {ps : List Parameter} {vs : List Variable} {nested : List Procedure} {fault : BrokenRule} →
        heading_broken env exported heading ≡ None → Parameters (no_names ∷ env) 0 (listed heading.parameters) within ps →
        (not heading.is_exported || all_simple ps) ≡ true →
        Declares (inner_scope within (with_procedure env n heading ps)) (suc n) (frame_room (length ps)) inner inside vs nested →
        BodyFails inside body fault → ProceduresFail env n exported (Tree.procedure heading inner body end_name rest) fault
    other_procedures : {env within inside : Environment} {n exported : ℕ} {heading : Heading} {inner : Declarations} {body : Option Stmts} {end_name : Tree.Name} {rest : Procedures} {ps : List Parameter} {vs : List Variable} {nested : List Procedure} {ss : Statements} {fault : BrokenRule} →
        heading_broken env exported heading ≡ None → Parameters (no_names ∷ env) 0 (listed heading.parameters) within ps →
        (not heading.is_exported || all_simple ps) ≡ true →
        Declares (inner_scope within (with_procedure env n heading ps)) (suc n) (frame_room (length ps)) inner inside vs nested →
        IsBody inside body ss →
        ProceduresFail (with_procedure env n heading ps) (suc n + length nested) (exports_behind exported heading) rest fault →
        ProceduresFail env n exported (Tree.procedure heading inner body end_name rest) fault

  pub data DeclarationsFail : Environment → (n : ℕ) → Room → Declarations → BrokenRule → Type 0 where
    constants : {env : Environment} {n : ℕ} {room : Room} {cs : Option (DeclarationPart ConstDecl)} {ts : Option (DeclarationPart TypeDecl)} {vs : Option (DeclarationPart VarDecl)} {ps : Procedures} {fault : BrokenRule} →
        ConstantsFail env (declared_by cs) fault → DeclarationsFail env n room (Tree.Declared cs ts vs ps) fault
    types : {env env1 : Environment} {n : ℕ} {room : Room} {cs : Option (DeclarationPart ConstDecl)} {ts : Option (DeclarationPart TypeDecl)} {vs : Option (DeclarationPart VarDecl)} {ps : Procedures} {fault : BrokenRule} →
        Constants env (declared_by cs) env1 → TypesFail env1 (declared_by ts) fault →
        DeclarationsFail env n room (Tree.Declared cs ts vs ps) fault
    variables : {env env1 env2 : Environment} {n : ℕ} {room : Room} {cs : Option (DeclarationPart ConstDecl)} {ts : Option (DeclarationPart TypeDecl)} {vs : Option (DeclarationPart VarDecl)} {ps : Procedures} {fault : BrokenRule} →
        Constants env (declared_by cs) env1 → Types env1 (declared_by ts) env2 → VariablesFail env2 room (declared_by vs) fault →
        DeclarationsFail env n room (Tree.Declared cs ts vs ps) fault
    procedures : {env env1 env2 env3 : Environment} {n : ℕ} {room : Room} {cs : Option (DeclarationPart ConstDecl)} {ts : Option (DeclarationPart TypeDecl)} {vs : Option (DeclarationPart VarDecl)} {ps : Procedures} {us : List Variable} {fault : BrokenRule} →
        Constants env (declared_by cs) env1 → Types env1 (declared_by ts) env2 → Variables env2 room (declared_by vs) env3 us →
        ProceduresFail env3 n 0 ps fault → DeclarationsFail env n room (Tree.Declared cs ts vs ps) fault

-- the rule that a module breaks first
pub data Breaks (m : Module) : BrokenRule → Type 0 where
  in_declarations : {fault : BrokenRule} →
      DeclarationsFail opening_names 0 module_room m.declarations fault → Breaks m fault
  in_body : {inside : Environment} {vs : List Variable} {ps : List Procedure} {fault : BrokenRule} →
      Declares opening_names 0 module_room m.declarations inside vs ps → BodyFails inside m.body fault → Breaks m fault
