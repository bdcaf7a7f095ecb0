-- What a module declares has names: its variables with the fields of their types, and its exports.
use Rattle.std.proofs.Common.{ℕ, Bool, true, false, List, [], ◌∷◌, ◌++◌, if◌then◌else◌, Option, Some, None, flat_map, refl, subst}
use Rattle.std.specs.List.{AllByRecursion}
use Rattle.ob_meaning.specs.Exported.{Export, exports_declared, exports_in, formals_in}
use Rattle.ob_grammar.specs.Texts.{HasText}
use Rattle.ob_grammar.specs.Tree as Tree
use Rattle.ob_grammar.specs.Tree.{ConstDecl, Declarations, DeclarationPart, Module, Procedures, TypeDecl, VarDecl}
use Rattle.ob_scan.specs.declared.token.Kind.{Kind}
use Rattle.ob_syntax.proofs.Worded.{derived_words}
use Rattle.ob_syntax.specs.Printing as Printing
use Rattle.ob_syntax.specs.Printing.{body_words, const_words, declaration_words, fixed, heading_words, ident, name_words, part_words, procedure_words, type_decl_words, type_words, var_decl_words, words_behind}
use Rattle.ob_laws.proofs.FieldNames.{AreWorded, IsSayable, denoted, opening_worded, variable_worded, worded_more}
use Rattle.ob_laws.proofs.Names.{AreNamed, AreNames, IsNamed, both, left, names_listed, right, tokens_named}
use Rattle.ob_text_words.specs.Words.{IsName}
use Rattle.ob_typing.specs.Declarations as Typing
use Rattle.ob_typing.specs.Declarations.{Constants, Declares, Room, Types, Variables, WellTyped, declared_by, variables_of, with_variables, with_words}
use Rattle.ob_typing.specs.Program.{DataType, Program, Variable}
use Rattle.ob_typing.specs.Scopes.{Constant, TypeName, Environment, declared, variable_in, opening_names, words}
use Rattle.ob_typing.specs.Statements.{listed}

-- ---- of variables and of their types

pub record IsWordedVariable (v : Variable) : Type 0 where
  pub name : IsName v.name
  pub type : IsSayable v.type

abbrev pub AreWordedVariables : List Variable → Type 0
AreWordedVariables vs = AllByRecursion IsWordedVariable vs

constants : {env after : Environment} {xs : List ConstDecl} → Constants env xs after → AreWorded env → AreWorded after
constants Typing.none worded = worded
constants (Typing.more {env = env} {x = x} {s = s} new h later) worded = constants later (worded_more env x.name.text (Constant s) worded tt)

types : {env after : Environment} {xs : List TypeDecl} → Types env xs after → AreNamed (flat_map type_decl_words xs) → AreWorded env → AreWorded after
types Typing.none h worded = worded
types (Typing.more {env = env} {x = x} {xs = xs} {t = t} new k later) h worded =
    let first = left IsNamed (type_decl_words x) (flat_map type_decl_words xs) h in
    let type = denoted env worded k (left IsNamed (type_words x.definition) (fixed Kind.Semicolon ∷ []) first.1.1) in
    types later (right IsNamed (type_decl_words x) (flat_map type_decl_words xs) h) (worded_more env x.name.text (TypeName t) worded type)

variables_more : (env : Environment) (room : Room) (t : DataType) (names : List Tree.Name) → AreWorded env → AreWorded (with_variables env room t names)
variables_more env room t [] worded = worded
variables_more env room t (name ∷ names) worded =
    variables_more (declared env name.text (variable_in env room.names t)) (with_words room (words t)) t names
    (worded_more env name.text (variable_in env room.names t) worded (variable_worded env room.names t))

one_list : (t : DataType) (names : List Tree.Name) → AreNames names → IsSayable t → AreWordedVariables (variables_of t names)
one_list t [] h k = tt
one_list t (name ∷ names) h k = (record { name = h.0; type = k }, one_list t names h.1 k)

variables : {env after : Environment} {room : Room} {xs : List VarDecl} {vs : List Variable} → Variables env room xs after vs → AreNamed (flat_map var_decl_words xs) → AreWorded env → AreWordedVariables vs
variables Typing.none h worded = tt
variables (Typing.more {env = env} {room = room} {x = x} {xs = xs} {t = t} {vs = vs} new k small later) h worded =
    let first = left IsNamed (var_decl_words x) (flat_map var_decl_words xs) h in
    let tail = (right IsNamed (name_words x.names) (fixed Kind.Colon ∷ (type_words x.of_type ++ fixed Kind.Semicolon ∷ [])) first).1 in
    let type = denoted env worded k (left IsNamed (type_words x.of_type) (fixed Kind.Semicolon ∷ []) tail) in
    both IsWordedVariable (variables_of t x.names) vs
    (one_list t x.names (names_listed x.names (left IsNamed (name_words x.names) (fixed Kind.Colon ∷ (type_words x.of_type ++ fixed Kind.Semicolon ∷ [])) first)) type)
    (variables later (right IsNamed (var_decl_words x) (flat_map var_decl_words xs) h) (variables_more env room t x.names worded))

part_named : {A : Type 0} (kind : Kind) (each : A → List Printing.Word) (part : Option (DeclarationPart A)) → AreNamed (part_words kind each part) → AreNamed (flat_map each (declared_by part))
part_named kind each None h = tt
part_named kind each (Some part) h = h.1

-- ---- of exports

abbrev pub IsWordedExport : Export → Type 0
IsWordedExport e = IsName e.name

one_more : (b : Bool) (e : Export) (es : List Export) → IsWordedExport e → AllByRecursion IsWordedExport es → AllByRecursion IsWordedExport (if b then e ∷ es else es)
one_more true e es h k = (h, k)
one_more false e es h k = k

exports : (xs : Procedures) → AreNamed (procedure_words xs) → AllByRecursion IsWordedExport (exports_in xs)
exports Tree.no_procedure h = tt
exports (Tree.procedure heading inner body end_name rest) h =
    let behind = fixed Kind.End ∷ ident end_name ∷ fixed Kind.Semicolon ∷ procedure_words rest in
    let first = left IsNamed (heading_words heading) (fixed Kind.Semicolon ∷ (declaration_words inner ++ (body_words body ++ behind))) h in
    let second = right IsNamed (heading_words heading) (fixed Kind.Semicolon ∷ (declaration_words inner ++ (body_words body ++ behind))) h in
    let third = right IsNamed (body_words body) behind (right IsNamed (declaration_words inner) (body_words body ++ behind) second.1) in
    one_more heading.is_exported (record { name = heading.name.text; parameters = formals_in (listed heading.parameters) }) (exports_in rest)
    (first.1.0 refl) (exports rest third.1.1.1)

-- ---- of a module

pub record DeclareWords (vs : List Variable) (es : List Export) : Type 0 where
  pub variables : AreWordedVariables vs
  pub exports : AllByRecursion IsWordedExport es

declared_words : {after : Environment} {n : ℕ} {room : Room} {x : Declarations} {vs : List Variable} {ps : _} → Declares opening_names n room x after vs ps → AreNamed (declaration_words x) → DeclareWords vs (exports_declared x)
declared_words (Typing.declarations {constants = cs} {types = ts} {variables = vars} {procedures = procedures} c t v p) h =
    let second = right IsNamed (part_words Kind.Const const_words cs) (part_words Kind.«Type» type_decl_words ts ++ (part_words Kind.Var var_decl_words vars ++ procedure_words procedures)) h in
    let third = right IsNamed (part_words Kind.«Type» type_decl_words ts) (part_words Kind.Var var_decl_words vars ++ procedure_words procedures) second in
    let of_types = left IsNamed (part_words Kind.«Type» type_decl_words ts) (part_words Kind.Var var_decl_words vars ++ procedure_words procedures) second in
    let worded = types t (part_named Kind.«Type» type_decl_words ts of_types) (constants c opening_worded) in
    record {
      variables = variables v (part_named Kind.Var var_decl_words vars (left IsNamed (part_words Kind.Var var_decl_words vars) (procedure_words procedures) third)) worded;
      exports = exports procedures (right IsNamed (part_words Kind.Var var_decl_words vars) (procedure_words procedures) third);
    }

typed_words : (m : Module) (program : Program) → WellTyped m program → AreNamed (declaration_words m.declarations) → DeclareWords program.variables (exports_declared m.declarations)
typed_words m program (Typing.well_typed declares body) h = declared_words declares h

pub module_words : (m : Module) (program : Program) → HasText m → WellTyped m program → DeclareWords program.variables (exports_declared m.declarations)
module_words m program text typed =
    let all : AreNamed (fixed Kind.Module ∷ words_behind m) = subst AreNamed (derived_words text.derives) (tokens_named text.tokens text.spelled) in
    typed_words m program typed
    (left IsNamed (declaration_words m.declarations) (body_words m.body ++ fixed Kind.End ∷ ident m.end_name ∷ fixed Kind.Dot ∷ []) all.1.1.1)
