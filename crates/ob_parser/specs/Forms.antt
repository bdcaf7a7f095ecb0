-- The phrases of the grammar as forms. In each, n is how many constructs stand around the phrase.
use Rattle.std.specs.Prelude.{ℕ, ◌+◌, Bool, true, false, List, [], ◌++◌, Option, flat_map}
use Rattle.ob_scan.specs.declared.token.Kind.{Kind}
use Rattle.ob_grammar.specs.declared.tree.Sign.{Sign}
use Rattle.ob_grammar.specs.Tree
use Rattle.ob_grammar.specs.Tree.{Name, Expr, Operands, Selectors, TypeExpr, FieldLists, OneFieldList, Stmt, Stmts, Branches, Otherwise, ConstDecl, TypeDecl, VarDecl, DeclarationPart, Section, Heading, Declarations, Procedures, ProcedureTree, Module}
use Rattle.ob_grammar.specs.Grammar
use Rattle.ob_grammar.specs.Grammar.{Lexemes, Phrase, Takes, TakesAt, TakesName, TakesWord, Each, Separated, Perhaps, Behind, PartBehind, TakesSign, Expression, SimpleExpression, Terms, Term, Factors, Factor, IdentList, IsType, FieldList, FieldListSequence, MoreFields, ActualParameters, Statement, StatementSequence, MoreStatements, Alternative, MoreAlternatives, ElsePart, ConstDeclaration, TypeDeclaration, VarDeclaration, FPSection, FormalParameters, ProcedureHeading, BodyPart, DeclarationsPart, ProcedureDeclaration, ProcedureDeclarations, ModuleText}
use Rattle.ob_grammar.specs.EndNamesAndNesting.{Breach, opening, differing, in_expr, in_operands, in_selectors, in_type, in_fields, in_stmt, in_stmts, in_branches, in_otherwise, in_body, in_constants, in_types, in_variables, in_parameters, in_declarations, in_procedures, breaches}
use Rattle.ob_parser.specs.Reading.{Form, Sequel}

-- what continues a phrase

abbrev pub nothing : Kind → Bool
nothing k = false

abbrev pub comma : Kind → Bool
comma Kind.Comma = true
comma _ = false

abbrev pub semicolon : Kind → Bool
semicolon Kind.Semicolon = true
semicolon _ = false

abbrev pub ident : Kind → Bool
ident Kind.Ident = true
ident _ = false

abbrev pub var : Kind → Bool
var Kind.Var = true
var _ = false

abbrev pub times : Kind → Bool
times Kind.Times = true
times _ = false

abbrev pub left_paren : Kind → Bool
left_paren Kind.LeftParen = true
left_paren _ = false

-- the signs of a first term
abbrev pub signs : Kind → Bool
signs Kind.Plus = true
signs Kind.Minus = true
signs _ = false

abbrev pub selectors_go_on : Kind → Bool
selectors_go_on Kind.Dot = true
selectors_go_on Kind.LeftBracket = true
selectors_go_on _ = false

-- behind the first name of an assignment
abbrev pub assignment_goes_on : Kind → Bool
assignment_goes_on Kind.Assign = true
assignment_goes_on k = selectors_go_on k

abbrev pub term_goes_on : Kind → Bool
term_goes_on Kind.Times = true
term_goes_on Kind.Div = true
term_goes_on Kind.Mod = true
term_goes_on Kind.And = true
term_goes_on k = selectors_go_on k

abbrev pub simple_goes_on : Kind → Bool
simple_goes_on Kind.Plus = true
simple_goes_on Kind.Minus = true
simple_goes_on Kind.Or = true
simple_goes_on k = term_goes_on k

abbrev pub expression_goes_on : Kind → Bool
expression_goes_on Kind.Equal = true
expression_goes_on Kind.NotEqual = true
expression_goes_on Kind.Less = true
expression_goes_on Kind.LessOrEqual = true
expression_goes_on Kind.Greater = true
expression_goes_on Kind.GreaterOrEqual = true
expression_goes_on k = simple_goes_on k

abbrev pub arguments_go_on : Kind → Bool
arguments_go_on Kind.Comma = true
arguments_go_on k = expression_goes_on k

abbrev pub fields_go_on : Kind → Bool
fields_go_on Kind.Semicolon = true
fields_go_on Kind.Ident = true
fields_go_on _ = false

-- behind the name that begins a statement: selectors, `:=` and actuals, and what continues an expression
abbrev pub name_goes_on : Kind → Bool
name_goes_on Kind.Assign = true
name_goes_on Kind.LeftParen = true
name_goes_on k = expression_goes_on k

-- a statement that is empty goes on with what begins one
abbrev pub statement_goes_on : Kind → Bool
statement_goes_on Kind.Ident = true
statement_goes_on Kind.If = true
statement_goes_on Kind.While = true
statement_goes_on Kind.Repeat = true
statement_goes_on k = name_goes_on k

abbrev pub statements_go_on : Kind → Bool
statements_go_on Kind.Semicolon = true
statements_go_on k = statement_goes_on k

abbrev pub alternatives_go_on : Kind → Bool
alternatives_go_on Kind.Elsif = true
alternatives_go_on k = statements_go_on k

abbrev pub else_goes_on : Kind → Bool
else_goes_on Kind.Else = true
else_goes_on k = statements_go_on k

abbrev pub body_goes_on : Kind → Bool
body_goes_on Kind.Begin = true
body_goes_on k = statements_go_on k

abbrev pub heading_goes_on : Kind → Bool
heading_goes_on Kind.Times = true
heading_goes_on Kind.LeftParen = true
heading_goes_on _ = false

abbrev pub constants_go_on : Kind → Bool
constants_go_on Kind.Const = true
constants_go_on Kind.Ident = true
constants_go_on _ = false

abbrev pub types_go_on : Kind → Bool
types_go_on Kind.«Type» = true
types_go_on Kind.Ident = true
types_go_on _ = false

abbrev pub variables_go_on : Kind → Bool
variables_go_on Kind.Var = true
variables_go_on Kind.Ident = true
variables_go_on _ = false

abbrev pub procedures_go_on : Kind → Bool
procedures_go_on Kind.Procedure = true
procedures_go_on _ = false

abbrev pub declarations_go_on : Kind → Bool
declarations_go_on Kind.Const = true
declarations_go_on Kind.«Type» = true
declarations_go_on Kind.Procedure = true
declarations_go_on k = variables_go_on k

-- phrases in one another

abbrev pub none : {A : Type 0} → A → List Breach
none x = []

-- one phrase behind another
abbrev pub Both : {A B : Type 0} → Phrase A → Phrase B → Phrase (A × B)
Both R S a x c = (b : Lexemes) × R a x.0 b × S b x.1 c

abbrev pub both : {A B : Type 0} → Form A → Form B → Form (A × B)
both F G = record { relation = Both F.relation G.relation; continues = G.continues; breaches = λ x. F.breaches x.0 ++ G.breaches x.1 }

-- the same, where the first part says what breaks a condition in the second
abbrev pub linked : {A B : Type 0} → Form A → Sequel A B → Form (A × B)
linked F S =
    record { relation = Both F.relation S.relation; continues = S.continues; breaches = λ x. F.breaches x.0 ++ S.breaches x.0 x.1 }

-- a token of this kind, as its place
abbrev pub token : Kind → Form ℕ
token kind = record { relation = λ a place b. TakesAt kind place a b; continues = nothing; breaches = none }

-- the token that opens a construct
abbrev pub opens : ℕ → Kind → Form ℕ
opens n kind = record { relation = λ a place b. TakesAt kind place a b; continues = nothing; breaches = opening n }

abbrev pub word : (Kind → Bool) → Kind → Form Bool
word continues kind = record { relation = TakesWord kind; continues = continues; breaches = none }

abbrev pub each : {A : Type 0} → (Kind → Bool) → (List A → List Breach) → Form A → Form (List A)
each continues breaks F = record { relation = Each F.relation; continues = continues; breaches = breaks }

abbrev pub separated : {A : Type 0} → Kind → (Kind → Bool) → (List A → List Breach) → Form A → Form (List A)
separated separator continues breaks F =
    record { relation = Separated separator F.relation; continues = continues; breaches = breaks }

abbrev pub perhaps : {A : Type 0} → (Kind → Bool) → (Option A → List Breach) → Form A → Form (Option A)
perhaps continues breaks F = record { relation = Perhaps F.relation; continues = continues; breaches = breaks }

abbrev pub behind : {A : Type 0} → Kind → Form A → Form A
behind kind F = record { relation = Behind kind F.relation; continues = F.continues; breaches = F.breaches }

-- the same, with the place of the word
abbrev pub part : {A : Type 0} → Kind → Form (List A) → Form (DeclarationPart A)
part kind F = record { relation = PartBehind kind F.relation; continues = F.continues; breaches = λ x. F.breaches x.declared }

-- names

abbrev pub name : Form Name
name = record { relation = TakesName; continues = nothing; breaches = none }

-- the name behind the END of what has this name
abbrev pub end_name : Name → Form Name
end_name n = record { relation = TakesName; continues = nothing; breaches = differing n }

abbrev pub ident_list : Form (List Name)
ident_list = separated Kind.Comma comma none name

-- expressions

abbrev pub sign : Form (Option Sign)
sign = perhaps signs none (record { relation = TakesSign; continues = nothing; breaches = none })

-- one selector that stands alone
pub data OneSelector : Type 0 where
  field : (place : ℕ) (name : Name) → OneSelector
  index : (place : ℕ) (index : Expr) → OneSelector

-- "." ident | "[" expression "]"
pub data TakesSelector : Lexemes → OneSelector → Lexemes → Type 0 where
  field : {a b c : Lexemes} {place : ℕ} {name : Name} →
      TakesAt Kind.Dot place a b → TakesName b name c → TakesSelector a (OneSelector.field place name) c
  index : {a b c d : Lexemes} {place : ℕ} {i : Expr} →
      TakesAt Kind.LeftBracket place a b → Expression b i c → Takes Kind.RightBracket c d →
      TakesSelector a (OneSelector.index place i) d

-- this selector in front of others
abbrev pub in_front : OneSelector → Selectors → Selectors
in_front (OneSelector.field place x) rest = Tree.field place x rest
in_front (OneSelector.index place i) rest = Tree.index place i rest

abbrev pub in_selector : ℕ → OneSelector → List Breach
in_selector n (OneSelector.field place _) = []
in_selector n (OneSelector.index place i) = opening n place ++ in_expr (n + 1) i

abbrev pub selector : ℕ → Form OneSelector
selector n = record { relation = TakesSelector; continues = nothing; breaches = in_selector n }

abbrev pub selectors : ℕ → Form Selectors
selectors n = record { relation = Grammar.Selector; continues = selectors_go_on; breaches = in_selectors n }

abbrev pub factor : ℕ → Form Expr
factor n = record { relation = Factor; continues = selectors_go_on; breaches = in_expr n }

abbrev pub factors : ℕ → Form Operands
factors n = record { relation = Factors; continues = term_goes_on; breaches = in_operands n }

abbrev pub term : ℕ → Form Expr
term n = record { relation = Term; continues = term_goes_on; breaches = in_expr n }

abbrev pub terms : ℕ → Form Operands
terms n = record { relation = Terms; continues = simple_goes_on; breaches = in_operands n }

abbrev pub simple_expression : ℕ → Form Expr
simple_expression n = record { relation = SimpleExpression; continues = simple_goes_on; breaches = in_expr n }

abbrev pub expression : ℕ → Form Expr
expression n = record { relation = Expression; continues = expression_goes_on; breaches = in_expr n }

-- types

abbrev pub type_expr : ℕ → Form TypeExpr
type_expr n = record { relation = IsType; continues = nothing; breaches = in_type n }

-- "OF" type
abbrev pub element : ℕ → Form (ℕ × TypeExpr)
element n = both (token Kind.Of) (type_expr n)

-- a field list in front of others
abbrev pub list_in_front : OneFieldList → FieldLists → FieldLists
list_in_front OneFieldList.empty rest = Tree.empty_list rest
list_in_front (OneFieldList.fields names of_type) rest = Tree.fields names of_type rest

abbrev pub in_field_list : ℕ → OneFieldList → List Breach
in_field_list n OneFieldList.empty = []
in_field_list n (OneFieldList.fields names of_type) = in_type n of_type

abbrev pub field_list : ℕ → Form OneFieldList
field_list n = record { relation = FieldList; continues = ident; breaches = in_field_list n }

abbrev pub field_lists : ℕ → Form FieldLists
field_lists n = record { relation = FieldListSequence; continues = fields_go_on; breaches = in_fields n }

-- {";" FieldList}
abbrev pub more_fields : ℕ → Form FieldLists
more_fields n = record { relation = MoreFields; continues = fields_go_on; breaches = in_fields n }

-- statements

abbrev pub arguments : ℕ → Form (List Expr)
arguments n = separated Kind.Comma arguments_go_on (flat_map (in_expr n)) (expression n)

abbrev pub actual_parameters : ℕ → Form (List Expr)
actual_parameters n = record { relation = ActualParameters; continues = nothing; breaches = flat_map (in_expr n) }

abbrev pub statement : ℕ → Form Stmt
statement n = record { relation = Statement; continues = statement_goes_on; breaches = in_stmt n }

abbrev pub statements : ℕ → Form Stmts
statements n = record { relation = StatementSequence; continues = statements_go_on; breaches = in_stmts n }

abbrev pub more_statements : ℕ → Form Stmts
more_statements n = record { relation = MoreStatements; continues = statements_go_on; breaches = in_stmts n }

-- "DO" StatementSequence "END"
abbrev pub repeated : ℕ → Form (ℕ × (Stmts × ℕ))
repeated n = both (token Kind.Do) (both (statements n) (token Kind.End))

-- a condition with the statements behind THEN
pub record OneBranch : Type 0 where
  pub condition : Expr
  pub body : Stmts

-- expression "THEN" StatementSequence
pub data TakesBranch : Lexemes → OneBranch → Lexemes → Type 0 where
  takes_branch : {a b c d : Lexemes} {x : OneBranch} →
      Expression a x.condition b → Takes Kind.Then b c → StatementSequence c x.body d → TakesBranch a x d

abbrev pub branch : ℕ → Form OneBranch
branch n =
    record { relation = TakesBranch; continues = statements_go_on; breaches = λ x. in_expr n x.condition ++ in_stmts n x.body }

abbrev pub branches : ℕ → Form Branches
branches n = record { relation = Alternative; continues = alternatives_go_on; breaches = in_branches n }

-- {"ELSIF" expression "THEN" StatementSequence}
abbrev pub more_branches : ℕ → Form Branches
more_branches n = record { relation = MoreAlternatives; continues = alternatives_go_on; breaches = in_branches n }

abbrev pub otherwise : ℕ → Form Otherwise
otherwise n = record { relation = ElsePart; continues = else_goes_on; breaches = in_otherwise n }

abbrev pub body : ℕ → Form (Option Stmts)
body n = perhaps body_goes_on (in_body n) (behind Kind.Begin (statements n))

-- declarations

-- "=" expression ";"
abbrev pub constant_value : ℕ → Form (ℕ × (Expr × ℕ))
constant_value n = both (token Kind.Equal) (both (expression n) (token Kind.Semicolon))

-- a token of this kind, and then type ";"
abbrev pub declared_type : Kind → ℕ → Form (ℕ × (TypeExpr × ℕ))
declared_type kind n = both (token kind) (both (type_expr n) (token Kind.Semicolon))

abbrev pub const_declaration : ℕ → Form ConstDecl
const_declaration n = record { relation = ConstDeclaration; continues = nothing; breaches = λ c. in_expr n c.value }

abbrev pub const_declarations : ℕ → Form (List ConstDecl)
const_declarations n = each ident (flat_map (λ c. in_expr n c.value)) (const_declaration n)

abbrev pub constants : ℕ → Form (Option (DeclarationPart ConstDecl))
constants n = perhaps constants_go_on (in_constants n) (part Kind.Const (const_declarations n))

abbrev pub type_declaration : ℕ → Form TypeDecl
type_declaration n = record { relation = TypeDeclaration; continues = nothing; breaches = λ t. in_type n t.definition }

abbrev pub type_declarations : ℕ → Form (List TypeDecl)
type_declarations n = each ident (flat_map (λ t. in_type n t.definition)) (type_declaration n)

abbrev pub types : ℕ → Form (Option (DeclarationPart TypeDecl))
types n = perhaps types_go_on (in_types n) (part Kind.«Type» (type_declarations n))

abbrev pub var_declaration : ℕ → Form VarDecl
var_declaration n = record { relation = VarDeclaration; continues = nothing; breaches = λ v. in_type n v.of_type }

abbrev pub var_declarations : ℕ → Form (List VarDecl)
var_declarations n = each ident (flat_map (λ v. in_type n v.of_type)) (var_declaration n)

abbrev pub variables : ℕ → Form (Option (DeclarationPart VarDecl))
variables n = perhaps variables_go_on (in_variables n) (part Kind.Var (var_declarations n))

abbrev pub section : ℕ → Form Section
section n = record { relation = FPSection; continues = nothing; breaches = λ s. in_type n s.of_type }

abbrev pub sections : ℕ → Form (List Section)
sections n = separated Kind.Semicolon semicolon (flat_map (λ s. in_type n s.of_type)) (section n)

abbrev pub formal_parameters : ℕ → Form (List Section)
formal_parameters n = record { relation = FormalParameters; continues = nothing; breaches = flat_map (λ s. in_type n s.of_type) }

abbrev pub parameters : ℕ → Form (Option (List Section))
parameters n = perhaps left_paren (in_parameters n) (formal_parameters n)

-- the heading of a procedure that stands within n constructs; its parameters stand within the procedure
abbrev pub in_heading : ℕ → Heading → List Breach
in_heading n h = opening n h.place ++ in_parameters (n + 1) h.parameters

abbrev pub heading : ℕ → Form Heading
heading n = record { relation = ProcedureHeading; continues = heading_goes_on; breaches = in_heading n }

abbrev pub in_procedure : ℕ → ProcedureTree → List Breach
in_procedure n x =
    in_heading n x.heading
    ++ (in_declarations (n + 1) x.declarations ++ (in_body (n + 1) x.body ++ differing x.heading.name x.end_name))

abbrev pub procedure_declaration : ℕ → Form ProcedureTree
procedure_declaration n = record { relation = ProcedureDeclaration; continues = nothing; breaches = in_procedure n }

abbrev pub procedures : ℕ → Form Procedures
procedures n = record { relation = ProcedureDeclarations; continues = procedures_go_on; breaches = in_procedures n }

abbrev pub declarations : ℕ → Form Declarations
declarations n = record { relation = DeclarationsPart; continues = declarations_go_on; breaches = in_declarations n }

-- "END" ident
abbrev pub ending : Name → Form (ℕ × Name)
ending n = both (token Kind.End) (end_name n)

-- ";" declarations ["BEGIN" StatementSequence] "END" ident
abbrev pub block : ℕ → Name → Form (ℕ × (Declarations × (Option Stmts × (ℕ × Name))))
block n x = both (token Kind.Semicolon) (both (declarations n) (both (body n) (ending x)))

abbrev pub module_text : Form Module
module_text = record { relation = ModuleText; continues = nothing; breaches = breaches }
