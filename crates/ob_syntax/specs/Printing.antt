-- The printed text of a module: all its tokens, numbers without leading zeros, one space between two, and a line feed at the end.
use Rattle.std.specs.Prelude.{ℕ, ℤ, List, [], ◌∷◌, ◌++◌, Option, Some, None, if◌then◌else◌}
use Rattle.std.specs.List.{flat_map}
use Rattle.std.specs.Option.{option_map_or, unwrap_or}
use Rattle.std.specs.Fmt.{signed_decimal}
use Rattle.ob_scan.specs.declared.token.Kind.{Kind}
use Rattle.ob_scan.specs.Spelling.{fixed_spelling}
use Rattle.ob_grammar.specs.declared.tree.Operator.{Operator}
use Rattle.ob_grammar.specs.declared.tree.Sign.{Sign}
use Rattle.ob_grammar.specs.Tree.{Name, Expr, Number, Named, Parens, Not, Product, Sum, Comparison, Operands, no_operand, operand, Selectors, no_selector, field, index, TypeExpr, NamedType, Array, Record, FieldLists, no_list, empty_list, fields, Stmt, Empty, Assign, Call, If, While, Repeat, Stmts, no_stmt, stmt, Branches, no_branch, branch, Otherwise, no_else, else', ConstDecl, TypeDecl, VarDecl, DeclarationPart, Section, Heading, Declarations, Declared, Procedures, no_procedure, procedure, Module}

-- a token that is printed: its kind and its bytes
pub record Word : Type 0 where
  pub kind : Kind
  pub bytes : List ℕ

-- a keyword or a symbol
abbrev pub fixed : Kind → Word
fixed kind = record { kind = kind; bytes = unwrap_or (fixed_spelling kind) [] }

abbrev pub ident : Name → Word
ident name = record { kind = Kind.Ident; bytes = name.text }

abbrev pub number : ℤ → Word
number value = record { kind = Kind.Number; bytes = signed_decimal value }

abbrev pub operator_kind : Operator → Kind
operator_kind Operator.Equal = Kind.Equal
operator_kind Operator.NotEqual = Kind.NotEqual
operator_kind Operator.Less = Kind.Less
operator_kind Operator.LessOrEqual = Kind.LessOrEqual
operator_kind Operator.Greater = Kind.Greater
operator_kind Operator.GreaterOrEqual = Kind.GreaterOrEqual
operator_kind Operator.Plus = Kind.Plus
operator_kind Operator.Minus = Kind.Minus
operator_kind Operator.Or = Kind.Or
operator_kind Operator.Times = Kind.Times
operator_kind Operator.Div = Kind.Div
operator_kind Operator.Mod = Kind.Mod
operator_kind Operator.And = Kind.And

abbrev pub sign_words : Option Sign → List Word
sign_words None = []
sign_words (Some sign) = if sign.is_minus then (fixed Kind.Minus ∷ []) else (fixed Kind.Plus ∷ [])

-- parts with a word between two
abbrev pub between : {A : Type 0} → Kind → (A → List Word) → List A → List Word
between separator words [] = []
between separator words (x ∷ xs) = words x ++ flat_map (λ y. fixed separator ∷ words y) xs

-- a part that may be missing
abbrev pub perhaps : {A : Type 0} → (A → List Word) → Option A → List Word
perhaps words part = option_map_or words part []

abbrev pub name_words : List Name → List Word
name_words = between Kind.Comma (λ name. ident name ∷ [])

abbrev mutual
  pub expr_words : Expr → List Word
  expr_words (Number value place) = number value ∷ []
  expr_words (Named name selectors) = ident name ∷ selector_words selectors
  expr_words (Parens place inner) = fixed Kind.LeftParen ∷ (expr_words inner ++ fixed Kind.RightParen ∷ [])
  expr_words (Not place e) = fixed Kind.Not ∷ expr_words e
  expr_words (Product first rest) = expr_words first ++ operand_words rest
  expr_words (Sum sign first rest) = sign_words sign ++ (expr_words first ++ operand_words rest)
  expr_words (Comparison left operator place right) = expr_words left ++ fixed (operator_kind operator) ∷ expr_words right

  pub operand_words : Operands → List Word
  operand_words no_operand = []
  operand_words (operand operator place e rest) = fixed (operator_kind operator) ∷ (expr_words e ++ operand_words rest)

  pub selector_words : Selectors → List Word
  selector_words no_selector = []
  selector_words (field place name rest) = fixed Kind.Dot ∷ ident name ∷ selector_words rest
  selector_words (index place i rest) =
      fixed Kind.LeftBracket ∷ (expr_words i ++ fixed Kind.RightBracket ∷ selector_words rest)

abbrev mutual
  pub type_words : TypeExpr → List Word
  type_words (NamedType name) = ident name ∷ []
  type_words (Array place length element) = fixed Kind.Array ∷ (expr_words length ++ fixed Kind.Of ∷ type_words element)
  type_words (Record place lists) = fixed Kind.Record ∷ (field_words lists ++ fixed Kind.End ∷ [])

  -- the lists of a record, and those behind a first one
  pub field_words : FieldLists → List Word
  field_words no_list = []
  field_words (empty_list rest) = more_field_words rest
  field_words (fields names t rest) = name_words names ++ fixed Kind.Colon ∷ (type_words t ++ more_field_words rest)

  pub more_field_words : FieldLists → List Word
  more_field_words no_list = []
  more_field_words (empty_list rest) = fixed Kind.Semicolon ∷ more_field_words rest
  more_field_words (fields names t rest) =
      fixed Kind.Semicolon ∷ (name_words names ++ fixed Kind.Colon ∷ (type_words t ++ more_field_words rest))

abbrev pub actual_words : List Expr → List Word
actual_words es = fixed Kind.LeftParen ∷ (between Kind.Comma expr_words es ++ fixed Kind.RightParen ∷ [])

abbrev mutual
  pub stmt_words : Stmt → List Word
  stmt_words Empty = []
  stmt_words (Assign target selectors e) = ident target ∷ (selector_words selectors ++ fixed Kind.Assign ∷ expr_words e)
  stmt_words (Call name actuals) = ident name ∷ perhaps actual_words actuals
  stmt_words (If place branches otherwise) =
      fixed Kind.If ∷ (branch_words branches ++ (else_words otherwise ++ fixed Kind.End ∷ []))
  stmt_words (While place condition body) =
      fixed Kind.While ∷ (expr_words condition ++ fixed Kind.Do ∷ (stmts_words body ++ fixed Kind.End ∷ []))
  stmt_words (Repeat place body condition) = fixed Kind.Repeat ∷ (stmts_words body ++ fixed Kind.Until ∷ expr_words condition)

  -- statements, and those behind a first one
  pub stmts_words : Stmts → List Word
  stmts_words no_stmt = []
  stmts_words (stmt s rest) = stmt_words s ++ more_stmts_words rest

  pub more_stmts_words : Stmts → List Word
  more_stmts_words no_stmt = []
  more_stmts_words (stmt s rest) = fixed Kind.Semicolon ∷ (stmt_words s ++ more_stmts_words rest)

  -- branches, and those behind a first one
  pub branch_words : Branches → List Word
  branch_words no_branch = []
  branch_words (branch condition body rest) =
      expr_words condition ++ fixed Kind.Then ∷ (stmts_words body ++ more_branch_words rest)

  pub more_branch_words : Branches → List Word
  more_branch_words no_branch = []
  more_branch_words (branch condition body rest) =
      fixed Kind.Elsif ∷ (expr_words condition ++ fixed Kind.Then ∷ (stmts_words body ++ more_branch_words rest))

  pub else_words : Otherwise → List Word
  else_words no_else = []
  else_words (else' body) = fixed Kind.Else ∷ stmts_words body

abbrev pub body_words : Option Stmts → List Word
body_words = perhaps (λ body. fixed Kind.Begin ∷ stmts_words body)

abbrev pub const_words : ConstDecl → List Word
const_words c = ident c.name ∷ fixed Kind.Equal ∷ (expr_words c.value ++ fixed Kind.Semicolon ∷ [])

abbrev pub type_decl_words : TypeDecl → List Word
type_decl_words t = ident t.name ∷ fixed Kind.Equal ∷ (type_words t.definition ++ fixed Kind.Semicolon ∷ [])

abbrev pub var_decl_words : VarDecl → List Word
var_decl_words v = name_words v.names ++ fixed Kind.Colon ∷ (type_words v.of_type ++ fixed Kind.Semicolon ∷ [])

abbrev pub section_words : Section → List Word
section_words s =
    (if s.is_var then (fixed Kind.Var ∷ []) else []) ++ (name_words s.names ++ fixed Kind.Colon ∷ type_words s.of_type)

abbrev pub parameter_words : List Section → List Word
parameter_words sections =
    fixed Kind.LeftParen ∷ (between Kind.Semicolon section_words sections ++ fixed Kind.RightParen ∷ [])

abbrev pub heading_words : Heading → List Word
heading_words h =
    fixed Kind.Procedure ∷ ident h.name
    ∷ ((if h.is_exported then (fixed Kind.Times ∷ []) else []) ++ perhaps parameter_words h.parameters)

-- a keyword, and each declaration behind it
abbrev pub part_words : {A : Type 0} → Kind → (A → List Word) → Option (DeclarationPart A) → List Word
part_words word words = perhaps (λ part. fixed word ∷ flat_map words part.declared)

abbrev mutual
  pub declaration_words : Declarations → List Word
  declaration_words (Declared constants types variables procedures) =
      part_words Kind.Const const_words constants
      ++ (part_words Kind.«Type» type_decl_words types
      ++ (part_words Kind.Var var_decl_words variables ++ procedure_words procedures))

  pub procedure_words : Procedures → List Word
  procedure_words no_procedure = []
  procedure_words (procedure heading inner body end_name rest) =
      heading_words heading
      ++ fixed Kind.Semicolon
      ∷ (declaration_words inner
      ++ (body_words body ++ fixed Kind.End ∷ ident end_name ∷ fixed Kind.Semicolon ∷ procedure_words rest))

-- the tokens of a module behind its MODULE
abbrev pub words_behind : Module → List Word
words_behind m =
    ident m.name ∷ fixed Kind.Semicolon
    ∷ (declaration_words m.declarations
    ++ (body_words m.body ++ fixed Kind.End ∷ ident m.end_name ∷ fixed Kind.Dot ∷ []))

-- words, each behind a space
abbrev pub spaced : List Word → List ℕ
spaced = flat_map (λ w. 32 ∷ w.bytes)

-- the printed text
abbrev pub printed : Module → List ℕ
printed m = (fixed Kind.Module).bytes ++ (spaced (words_behind m) ++ 10 ∷ [])
