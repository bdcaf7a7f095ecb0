-- What a part of the text comes to where others follow it. `rest` is whatever follows: the verdict on the part and `rest` is the
-- verdict on `rest` alone, behind what the part has left.
use Rattle.std.specs.Prelude.{◌≡◌, ℕ, List, ◌∷◌, map, Option}
use Rattle.ob_grammar.specs.declared.tree.ConstDecl.{ConstDecl}
use Rattle.ob_grammar.specs.declared.tree.TypeDecl.{TypeDecl}
use Rattle.ob_grammar.specs.declared.tree.VarDecl.{VarDecl}
use Rattle.ob_grammar.specs.declared.tree.FieldList.{FieldList}
use Rattle.ob_grammar.specs.declared.tree.Name.{Name}
use Rattle.ob_grammar.specs.declared.tree.Section.{Section}
use Rattle.ob_grammar.specs.declared.tree.Selector as Written
use Rattle.ob_grammar.specs.declared.tree.Stmt.{Stmt}
use Rattle.ob_grammar.specs.Tree
use Rattle.ob_grammar.specs.View.{const_decl_of, name_of, section_of, stmt_of, type_decl_of, var_decl_of}
use Rattle.ob_typing.specs.Program as Programs
use Rattle.ob_typing.specs.Types.{with_fields}
use Rattle.ob_typing.specs.Verdict.{Verdict}
use Rattle.ob_typing.specs.ExpressionVerdicts as Expressions
use Rattle.ob_typing.specs.StatementVerdicts.{statements}
use Rattle.ob_typing.specs.TypeVerdicts.{denoted_fields}
use Rattle.ob_typing.specs.ModuleVerdicts as Modules
use Rattle.ob_checked.specs.declared.fields.Fields.{Fields}
use Rattle.ob_checked.specs.declared.program.Parameter.{Parameter}
use Rattle.ob_checked.specs.declared.program.Selector.{Selector}
use Rattle.ob_checked.specs.declared.program.Statement.{Statement}
use Rattle.ob_checked.specs.declared.program.Variable.{Variable}
use Rattle.ob_checked.specs.declared.types.DataType.{DataType}
use Rattle.ob_checked.specs.declared.types.Types.{Types}
use Rattle.ob_checked.specs.Types.{fields_in, type_by, type_in}
use Rattle.ob_checked.specs.View.{table_of}
use Rattle.ob_scopes.specs.declared.constants.Usage.{Usage}
use Rattle.ob_scopes.specs.declared.scopes.Scopes.{Scopes}
use Rattle.ob_scopes.specs.Names.{env_of, types_in}
use Rattle.ob_scopes.specs.TakenNames.{taken_by}
use Rattle.ob_rules.specs.declared.declarations.Room.{Room}
use Rattle.ob_rules.specs.declared.expressions.Typed.{Typed}
use Rattle.ob_rules.specs.ByScopes.{parameters_behind, selecting_by, variables_behind}
use Rattle.ob_rules.specs.Checking.{and_then, fielded, indexed, selected_before, selector_before, typed_of}
use Rattle.ob_rules.specs.CheckingStatements.{statement_before}
use Rattle.ob_rules.specs.CheckingTypes.{behind_fields, fields_before, list_before}

-- a constant, which leads from the scopes before it to those behind it
abbrev pub DeclaresConstant : ConstDecl → Scopes → Scopes → Type 0
DeclaresConstant declaration before after =
    (rest : List Tree.ConstDecl)
    → Modules.constants (const_decl_of declaration ∷ rest) (env_of before) ≡ Modules.constants rest (env_of after)

-- a type
abbrev pub DeclaresType : TypeDecl → Scopes → Scopes → Type 0
DeclaresType declaration before after =
    (rest : List Tree.TypeDecl)
    → Modules.types (type_decl_of declaration ∷ rest) (env_of before) ≡ Modules.types rest (env_of after)

-- variables of one type, behind the old ones and in a room; they leave the new ones and the room that is left
abbrev pub DeclaresVariables : VarDecl → Scopes → Room → List Variable → Scopes → Room → List Variable → Type 0
DeclaresVariables declaration before room old after left new =
    (rest : List Tree.VarDecl)
    → variables_behind before room old (var_decl_of declaration ∷ rest) ≡ variables_behind after left new rest

-- a section of parameters, behind the old ones; it leaves the new ones
abbrev pub DeclaresSection : Section → Scopes → List Parameter → Scopes → List Parameter → Type 0
DeclaresSection section before old after new =
    (rest : List Tree.Section)
    → parameters_behind before old (section_of section ∷ rest) ≡ parameters_behind after new rest

-- a list of fields, behind the old ones; it leaves the new ones, and names stand for what they did
abbrev pub AddsFieldList : FieldList → Scopes → Fields → Scopes → Fields → Type 0
AddsFieldList list before old after new =
    (rest : Tree.FieldLists)
    → and_then (denoted_fields (env_of before) (list_before list rest) (taken_by old)) (behind_fields (types_in before) (fields_in old))
    ≡ and_then (denoted_fields (env_of before) rest (taken_by new)) (behind_fields (types_in after) (fields_in new))

-- names as fields of one type, behind the old fields; `rest` are the fields behind them, and `types` what the numbers of types stand for
abbrev pub AddsFields : List Name → DataType → Fields → Fields → Type 0
AddsFields names data_type old new =
    (types : List Programs.DataType) (rest : Programs.Fields)
    → fields_before types (fields_in new) rest
    ≡ fields_before types (fields_in old) (with_fields (map name_of names) (type_by types data_type) rest)

-- a selector, which leads from a type to a part of it and to the part's type
abbrev pub SelectorLeadsTo : Scopes → Written.Selector → Usage → DataType → Selector × DataType → Type 0
SelectorLeadsTo scopes selector usage whole part =
    (rest : Tree.Selectors)
    → selecting_by scopes (selector_before selector rest) usage whole ≡ and_then (selecting_by scopes rest usage part.1) (selected_before part.0)

-- a field does; `go` is the verdict on what follows, from the type on to which it leads
abbrev pub FieldLeadsTo : Types → ℕ → Name → DataType → Selector × DataType → Type 0
FieldLeadsTo types place name whole part =
    (go : Programs.DataType → Verdict Expressions.Path)
    → fielded place (name_of name) (type_in (table_of types) whole) go ≡ and_then (go (type_in (table_of types) part.1)) (selected_before part.0)

-- and so does an element, by an index that begins at the place `first`
abbrev pub ElementLeadsTo : Types → (place first : ℕ) → Typed → DataType → Selector × DataType → Type 0
ElementLeadsTo types place first index whole part =
    (go : Programs.DataType → Verdict Expressions.Path)
    → indexed place first (type_in (table_of types) whole) (typed_of index) go ≡ and_then (go (type_in (table_of types) part.1)) (selected_before part.0)

-- a statement, which is checked to another, or to none where it is empty
abbrev pub StatementChecksTo : Scopes → Stmt → Option Statement → Type 0
StatementChecksTo scopes written checked =
    (rest : Tree.Stmts)
    → statements (env_of scopes) (Tree.stmt (stmt_of written) rest) ≡ and_then (statements (env_of scopes) rest) (statement_before checked)
