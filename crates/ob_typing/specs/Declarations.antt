-- Well typed declarations and modules: from the names declared so far to those declared behind.
use Rattle.std.specs.Prelude.{◌≡◌, ℕ, zero, suc, ◌+◌, ◌*◌, ◌&&◌, ◌||◌, ◌≤◌, not, nat_eq, nat_le, true, false, if◌then◌else◌, List, [], ◌∷◌, ◌++◌, length, map, Option, Some, None}
use Rattle.std.specs.Prelude as Prelude
use Rattle.ob_grammar.specs.Tree
use Rattle.ob_grammar.specs.Tree.{TypeExpr, Stmts, ConstDecl, TypeDecl, VarDecl, DeclarationPart, Section, Heading, Declarations, Procedures, Module}
use Rattle.ob_interface.specs.declared.scalar.Scalar.{Scalar}
use Rattle.ob_typing.specs.Program
use Rattle.ob_typing.specs.Program.{Name, DataType, Statements, Parameter, Variable, Procedure}
use Rattle.ob_typing.specs.Scopes.{Constant, TypeName, ProcedureName, Environment, no_names, is_declared, declared, level, variable_in, opening_names, is_simple, words}
use Rattle.ob_typing.specs.Expressions.{HasConstant}
use Rattle.ob_typing.specs.Types.{second, Denotes}
use Rattle.ob_typing.specs.Statements.{listed, IsBody}

-- what a part declares: nothing, where its keyword does not stand
abbrev pub declared_by : {A : Type 0} → Option (DeclarationPart A) → List A
declared_by None = []
declared_by (Some part) = part.declared

-- variables

-- the room for the variables of a scope: how many names stand there, the words that they take, and the most words
pub record Room : Type 0 where
  pub names : ℕ
  pub taken : ℕ
  pub limit : ℕ

abbrev pub module_room : Room
module_room = record { names = 0; taken = 0; limit = 4096 }

-- a frame holds one word for each parameter
abbrev pub frame_room : ℕ → Room
frame_room parameters = record { names = parameters; taken = parameters; limit = 1024 }

-- with one variable more, of so many words
abbrev pub with_words : Room → ℕ → Room
with_words room w = record room { names = suc room.names; taken = room.taken + w }

-- the first name with which the variables, each of so many words, have more words than there is room for
abbrev pub first_beyond : Room → ℕ → List Tree.Name → Option Tree.Name
first_beyond room w [] = None
first_beyond room w (name ∷ names) =
    if nat_le (room.taken + w) room.limit then first_beyond (with_words room w) w names else Some name

-- with variables of this type
abbrev pub with_variables : Environment → Room → DataType → List Tree.Name → Environment
with_variables env room t [] = env
with_variables env room t (name ∷ names) =
    with_variables (declared env name.text (variable_in env room.names t)) (with_words room (words t)) t names

abbrev pub room_behind : Room → DataType → List Tree.Name → Room
room_behind room t [] = room
room_behind room t (name ∷ names) = room_behind (with_words room (words t)) t names

abbrev pub variables_of : DataType → List Tree.Name → List Variable
variables_of t = map (λ name. record { name = name.text; type = t })

-- parameters

-- with parameters of this type, behind so many others
abbrev pub with_parameters : Environment → ℕ → DataType → List Tree.Name → Environment
with_parameters env count t [] = env
with_parameters env count t (name ∷ names) =
    with_parameters (declared env name.text (variable_in env count t)) (suc count) t names

abbrev pub parameters_of : Prelude.Bool → DataType → List Tree.Name → List Parameter
parameters_of is_var t = map (λ name. record { name = name.text; is_var = is_var; type = t })

abbrev pub most_parameters : ℕ
most_parameters = 8

-- the names of a section behind so many parameters: each is new, and there are at most 8 parameters
pub record NewParameters (env : Environment) (count : ℕ) (names : List Tree.Name) : Type 0 where
  pub new : second (is_declared env) names ≡ None
  pub few : count + length names ≤ most_parameters

-- a formal type is a name
abbrev pub is_name : TypeExpr → Prelude.Bool
is_name (Tree.NamedType name) = true
is_name _ = false

-- procedures

abbrev pub most_exports : ℕ
most_exports = 64

-- within a procedure
abbrev pub is_nested : Environment → Prelude.Bool
is_nested env = not (nat_eq (level env) 2)

abbrev pub all_simple : List Parameter → Prelude.Bool
all_simple [] = true
all_simple (p ∷ ps) = is_simple p.type && all_simple ps

abbrev pub exports_behind : ℕ → Heading → ℕ
exports_behind exported heading = if heading.is_exported then suc exported else exported

-- a procedure's name behind so many exports: it is new, only the module's own procedures are exported, and at most 64 of them
pub record NewProcedure (env : Environment) (exported : ℕ) (heading : Heading) : Type 0 where
  pub new : is_declared env heading.name.text ≡ false
  pub of_module : (heading.is_exported && is_nested env) ≡ false
  pub few : exports_behind exported heading ≤ most_exports

-- the innermost scope of one environment before another
abbrev pub inner_scope : Environment → Environment → Environment
inner_scope [] env = env
inner_scope (scope ∷ outer) env = scope ∷ env

-- the names behind a heading
abbrev pub with_procedure : Environment → ℕ → Heading → List Parameter → Environment
with_procedure env n heading ps = declared env heading.name.text (ProcedureName n ps)

-- the judgements

-- {ident "=" expression ";"}: each name is visible behind its value
pub data Constants : Environment → List ConstDecl → Environment → Type 0 where
  none : {env : Environment} → Constants env [] env
  more : {env after : Environment} {x : ConstDecl} {xs : List ConstDecl} {s : Scalar} →
      is_declared env x.name.text ≡ false → HasConstant env x.value s →
      Constants (declared env x.name.text (Constant s)) xs after → Constants env (x ∷ xs) after

-- {ident "=" type ";"}
pub data Types : Environment → List TypeDecl → Environment → Type 0 where
  none : {env : Environment} → Types env [] env
  more : {env after : Environment} {x : TypeDecl} {xs : List TypeDecl} {t : DataType} →
      is_declared env x.name.text ≡ false → Denotes env x.definition t →
      Types (declared env x.name.text (TypeName t)) xs after → Types env (x ∷ xs) after

-- {IdentList ":" type ";"}: the names are new, there is room for them, and they are visible behind the type
pub data Variables : Environment → Room → List VarDecl → Environment → List Variable → Type 0 where
  none : {env : Environment} {room : Room} → Variables env room [] env []
  more : {env after : Environment} {room : Room} {x : VarDecl} {xs : List VarDecl} {t : DataType} {vs : List Variable} →
      second (is_declared env) x.names ≡ None → Denotes env x.of_type t → first_beyond room (words t) x.names ≡ None →
      Variables (with_variables env room t x.names) (room_behind room t x.names) xs after vs →
      Variables env room (x ∷ xs) after (variables_of t x.names ++ vs)

-- {FPSection} behind so many parameters: the names are new and few, a formal type is a name, a value parameter is not structured, and the names are visible behind their section
pub data Parameters : Environment → ℕ → List Section → Environment → List Parameter → Type 0 where
  none : {env : Environment} {count : ℕ} → Parameters env count [] env []
  more : {env after : Environment} {count : ℕ} {x : Section} {xs : List Section} {t : DataType} {ps : List Parameter} →
      NewParameters env count x.names → Denotes env x.of_type t → is_name x.of_type ≡ true → (x.is_var || is_simple t) ≡ true →
      Parameters (with_parameters env count t x.names) (count + length x.names) xs after ps →
      Parameters env count (x ∷ xs) after (parameters_of x.is_var t x.names ++ ps)

mutual
  -- procedures in the order of their headings, numbered from n, behind so many exports
  pub data DeclaresProcedures : Environment → (n exported : ℕ) → Procedures → Environment → List Procedure → Type 0 where
    none : {env : Environment} {n exported : ℕ} → DeclaresProcedures env n exported Tree.no_procedure env []
    procedure : {env within inside after : Environment} {n exported : ℕ} {heading : Heading} {inner : Declarations} {body : Option Stmts} {end_name : Tree.Name} {rest : Procedures}
        {ps : List Parameter} {vs : List Variable} {nested others : List Procedure} {ss : Statements} →
        NewProcedure env exported heading →
        Parameters (no_names ∷ env) 0 (listed heading.parameters) within ps →
        -- the parameters of an export are not structured
        (not heading.is_exported || all_simple ps) ≡ true →
        -- the procedure's own name is visible in it, unless a parameter hides it
        Declares (inner_scope within (with_procedure env n heading ps)) (suc n) (frame_room (length ps)) inner inside vs nested →
        IsBody inside body ss →
        DeclaresProcedures (with_procedure env n heading ps) (suc n + length nested) (exports_behind exported heading) rest after others →
        DeclaresProcedures env n exported (Tree.procedure heading inner body end_name rest) after
        (record { name = heading.name.text; is_exported = heading.is_exported; parameters = ps; variables = vs; body = ss } ∷ nested ++ others)

  -- declarations, with the variables and procedures that they declare
  pub data Declares : Environment → (n : ℕ) → Room → Declarations → Environment → List Variable → List Procedure → Type 0 where
    declarations : {env env1 env2 env3 after : Environment} {n : ℕ} {room : Room} {constants : Option (DeclarationPart ConstDecl)} {types : Option (DeclarationPart TypeDecl)}
        {variables : Option (DeclarationPart VarDecl)} {procedures : Procedures} {vs : List Variable} {ps : List Procedure} →
        Constants env (declared_by constants) env1 → Types env1 (declared_by types) env2 →
        Variables env2 room (declared_by variables) env3 vs → DeclaresProcedures env3 n 0 procedures after ps →
        Declares env n room (Tree.Declared constants types variables procedures) after vs ps

-- a module is well typed as this program
pub data WellTyped (m : Module) : Program.Program → Type 0 where
  well_typed : {inside : Environment} {program : Program.Program} →
      Declares opening_names 0 module_room m.declarations inside program.variables program.procedures →
      IsBody inside m.body program.body → WellTyped m program
