-- What the grammar says of the expressions of a text: numbers are in range, and operators bind in their order.
use Rattle.std.proofs.Common.{ℕ, ◌≤◌, ℤ, pos, List, [], ◌∷◌, Option, Some, None, refl, All, arith}
use Rattle.std.proofs.lemmas.Int.{ints}
use Rattle.std.proofs.lemmas.List.Elements.{All-head, All-tail}
use Rattle.ob_scan.specs.declared.token.Kind.{Kind}
use Rattle.ob_scan.specs.Limits.{largest_number}
use Rattle.ob_scan.specs.Spelling.{number_value}
use Rattle.ob_scan.specs.Lexemes.{lexeme, IsSpelled, spelled}
use Rattle.ob_grammar.specs.Tree
use Rattle.ob_grammar.specs.Tree.{Name, Expr, Number, Named, Parens, Not, Product, Sum, Comparison, Operands, no_operand, operand, Selectors, no_selector, field, index, TypeExpr, FieldLists, OneFieldList, Stmt, Empty, Assign, Call, If, While, Repeat, Stmts, no_stmt, stmt, Branches, no_branch, branch, Otherwise, no_else, else', ConstDecl, TypeDecl, VarDecl, DeclarationPart, Section, Heading, Declarations, Declared, Procedures, no_procedure, procedure, ProcedureTree, Module}
use Rattle.ob_grammar.specs.Grammar as Grammar
use Rattle.ob_grammar.specs.Grammar.{Lexemes, TakesAt, Takes, TakesName, TakesWord, Each, Separated, Perhaps, PartBehind, TakesSign, IdentList, BodyPart}
use Rattle.ob_grammar.specs.Grammar.TakesAt.{takes}
use Rattle.ob_code_scheme.specs.Types.{IsInteger}

-- ---- shapes: a factor is of rank 0, a term of 1, a simple expression of 2, an expression of 3

abbrev mutual
  pub Shaped : ℕ → Expr → Type 0
  Shaped rank (Number z place) = IsInteger z
  Shaped rank (Named name selectors) = ShapedSelectors selectors
  Shaped rank (Parens place inner) = Shaped 3 inner
  Shaped rank (Not place e) = Shaped 0 e
  Shaped rank (Product first rest) = (1 ≤ rank) × Shaped 0 first × ShapedOperands 0 rest
  Shaped rank (Sum sign first rest) = (2 ≤ rank) × Shaped 1 first × ShapedOperands 1 rest
  Shaped rank (Comparison left operator place right) = (3 ≤ rank) × Shaped 2 left × Shaped 2 right

  pub ShapedOperands : ℕ → Operands → Type 0
  ShapedOperands rank no_operand = Unit {0}
  ShapedOperands rank (operand operator place e rest) = Shaped rank e × ShapedOperands rank rest

  pub ShapedSelectors : Selectors → Type 0
  ShapedSelectors no_selector = Unit {0}
  ShapedSelectors (field place name rest) = ShapedSelectors rest
  ShapedSelectors (index place i rest) = Shaped 3 i × ShapedSelectors rest

abbrev pub ShapedAll : List Expr → Type 0
ShapedAll [] = Unit {0}
ShapedAll (e ∷ es) = Shaped 3 e × ShapedAll es

abbrev pub ShapedActuals : Option (List Expr) → Type 0
ShapedActuals None = Unit {0}
ShapedActuals (Some es) = ShapedAll es

abbrev mutual
  pub ShapedStatement : Stmt → Type 0
  ShapedStatement Empty = Unit {0}
  ShapedStatement (Assign target selectors e) = ShapedSelectors selectors × Shaped 3 e
  ShapedStatement (Call name actuals) = ShapedActuals actuals
  ShapedStatement (If place branches otherwise) = ShapedBranches branches × ShapedOtherwise otherwise
  ShapedStatement (While place condition body) = Shaped 3 condition × ShapedStatements body
  ShapedStatement (Repeat place body condition) = ShapedStatements body × Shaped 3 condition

  pub ShapedStatements : Stmts → Type 0
  ShapedStatements no_stmt = Unit {0}
  ShapedStatements (stmt s rest) = ShapedStatement s × ShapedStatements rest

  pub ShapedBranches : Branches → Type 0
  ShapedBranches no_branch = Unit {0}
  ShapedBranches (branch condition body rest) = Shaped 3 condition × ShapedStatements body × ShapedBranches rest

  pub ShapedOtherwise : Otherwise → Type 0
  ShapedOtherwise no_else = Unit {0}
  ShapedOtherwise (else' body) = ShapedStatements body

abbrev pub ShapedBody : Option Stmts → Type 0
ShapedBody None = Unit {0}
ShapedBody (Some body) = ShapedStatements body

abbrev pub ShapedConstants : List ConstDecl → Type 0
ShapedConstants [] = Unit {0}
ShapedConstants (x ∷ xs) = Shaped 3 x.value × ShapedConstants xs

abbrev pub ShapedPart : Option (DeclarationPart ConstDecl) → Type 0
ShapedPart None = Unit {0}
ShapedPart (Some part) = ShapedConstants part.declared

abbrev mutual
  pub ShapedDeclarations : Declarations → Type 0
  ShapedDeclarations (Declared constants types variables procedures) = ShapedPart constants × ShapedProcedures procedures

  pub ShapedProcedures : Procedures → Type 0
  ShapedProcedures no_procedure = Unit {0}
  ShapedProcedures (procedure heading inner body end_name rest) = ShapedDeclarations inner × ShapedBody body × ShapedProcedures rest

-- ---- what tokens that are spelled derive has that shape, and the tokens behind it are spelled

abbrev AreSpelled : Lexemes → Type 0
AreSpelled = All IsSpelled

taken : {kind : Kind} {place : ℕ} {a b : Lexemes} → TakesAt kind place a b → AreSpelled a → AreSpelled b
taken (takes {kind = kind} {place = place} {bytes = bytes} {rest = rest}) s = All-tail IsSpelled (lexeme kind place bytes) rest s

word : {kind : Kind} {a b : Lexemes} → Takes kind a b → AreSpelled a → AreSpelled b
word t s = taken t.1 s

named : {a b : Lexemes} {name : Name} → TakesName a name b → AreSpelled a → AreSpelled b
named (Grammar.takes {name = name} {rest = rest}) s = All-tail IsSpelled (lexeme Kind.Ident name.place name.text) rest s

number_small : {place : ℕ} {bytes : List ℕ} → IsSpelled (lexeme Kind.Number place bytes) → number_value bytes ≤ largest_number
number_small (spelled s name number) = number refl

integer : (n : ℕ) → n ≤ largest_number → IsInteger (pos n)
integer n h = record { low = grind (arith, ints); high = grind (arith, ints) }

-- a rank up to another one
up : (rank above : ℕ) (e : Expr) → rank ≤ above → Shaped rank e → Shaped above e
up rank above (Number z place) le h = h
up rank above (Named name selectors) le h = h
up rank above (Parens place inner) le h = h
up rank above (Not place e) le h = h
up rank above (Product first rest) le h = (omega (arith, le, h.0), h.1, h.2)
up rank above (Sum sign first rest) le h = (omega (arith, le, h.0), h.1, h.2)
up rank above (Comparison left operator place right) le h = (omega (arith, le, h.0), h.1, h.2)

sign_taken : {a b : Lexemes} {sign : _} → TakesSign a sign b → AreSpelled a → AreSpelled b
sign_taken (Grammar.plus t) s = taken t s
sign_taken (Grammar.minus t) s = taken t s

mutual
  expression : {a b : Lexemes} {e : Expr} → Grammar.Expression a e b → AreSpelled a → Shaped 3 e × AreSpelled b
  expression (Grammar.simple {e = e} h) s = let x = simple h s in (up 2 3 e (omega arith) x.0, x.1)
  expression (Grammar.comparison left r t right) s =
      let x = simple left s in
      let y = simple right (taken t x.1) in
      ((omega arith, x.0, y.0), y.1)

  simple : {a b : Lexemes} {e : Expr} → Grammar.SimpleExpression a e b → AreSpelled a → Shaped 2 e × AreSpelled b
  simple (Grammar.one_term {e = e} h) s = let x = term h s in (up 1 2 e (omega arith) x.0, x.1)
  simple (Grammar.signed sign first rest) s =
      let x = term first (sign_taken sign s) in
      let y = terms rest x.1 in
      ((omega arith, x.0, y.0), y.1)
  simple (Grammar.sum first o t second rest) s =
      let x = term first s in
      let y = term second (taken t x.1) in
      let z = terms rest y.1 in
      ((omega arith, x.0, (y.0, z.0)), z.1)

  terms : {a b : Lexemes} {rest : Operands} → Grammar.Terms a rest b → AreSpelled a → ShapedOperands 1 rest × AreSpelled b
  terms Grammar.no_term s = (tt, s)
  terms (Grammar.more_terms o t e rest) s =
      let x = term e (taken t s) in
      let y = terms rest x.1 in
      ((x.0, y.0), y.1)

  term : {a b : Lexemes} {e : Expr} → Grammar.Term a e b → AreSpelled a → Shaped 1 e × AreSpelled b
  term (Grammar.one_factor {e = e} h) s = let x = factor h s in (up 0 1 e (omega arith) x.0, x.1)
  term (Grammar.product first o t second rest) s =
      let x = factor first s in
      let y = factor second (taken t x.1) in
      let z = factors rest y.1 in
      ((omega arith, x.0, (y.0, z.0)), z.1)

  factors : {a b : Lexemes} {rest : Operands} → Grammar.Factors a rest b → AreSpelled a → ShapedOperands 0 rest × AreSpelled b
  factors Grammar.no_factor s = (tt, s)
  factors (Grammar.more_factors o t e rest) s =
      let x = factor e (taken t s) in
      let y = factors rest x.1 in
      ((x.0, y.0), y.1)

  factor : {a b : Lexemes} {e : Expr} → Grammar.Factor a e b → AreSpelled a → Shaped 0 e × AreSpelled b
  factor (Grammar.named name selectors) s = selector selectors (named name s)
  factor (Grammar.number {place = place} {bytes = bytes} {rest = rest}) s =
      (integer (number_value bytes) (number_small (All-head IsSpelled (lexeme Kind.Number place bytes) rest s)), All-tail IsSpelled (lexeme Kind.Number place bytes) rest s)
  factor (Grammar.parens t inner close) s = let x = expression inner (taken t s) in (x.0, word close x.1)
  factor (Grammar.not t e) s = factor e (taken t s)

  selector : {a b : Lexemes} {selectors : Selectors} → Grammar.Selector a selectors b → AreSpelled a → ShapedSelectors selectors × AreSpelled b
  selector Grammar.no_more s = (tt, s)
  selector (Grammar.field t name rest) s = selector rest (named name (taken t s))
  selector (Grammar.index t i close rest) s =
      let x = expression i (taken t s) in
      let y = selector rest (word close x.1) in
      ((x.0, y.0), y.1)

names : {a b : Lexemes} {xs : List Name} → IdentList a xs b → AreSpelled a → AreSpelled b
names (Grammar.one h) s = named h s
names (Grammar.more h t rest) s = names rest (word t (named h s))

mutual
  type_taken : {a b : Lexemes} {t : TypeExpr} → Grammar.IsType a t b → AreSpelled a → AreSpelled b
  type_taken (Grammar.named_type h) s = named h s
  type_taken (Grammar.array t length of element) s = type_taken element (word of (expression length (taken t s)).1)
  type_taken (Grammar.record' t lists end) s = word end (lists_taken lists (taken t s))

  list_taken : {a b : Lexemes} {x : OneFieldList} → Grammar.FieldList a x b → AreSpelled a → AreSpelled b
  list_taken Grammar.empty s = s
  list_taken (Grammar.fields ns colon t) s = type_taken t (word colon (names ns s))

  lists_taken : {a b : Lexemes} {lists : FieldLists} → Grammar.FieldListSequence a lists b → AreSpelled a → AreSpelled b
  lists_taken (Grammar.first_empty h more) s = more_taken more (list_taken h s)
  lists_taken (Grammar.first_fields h more) s = more_taken more (list_taken h s)

  more_taken : {a b : Lexemes} {lists : FieldLists} → Grammar.MoreFields a lists b → AreSpelled a → AreSpelled b
  more_taken Grammar.no_more_fields s = s
  more_taken (Grammar.more_fields t rest) s = lists_taken rest (word t s)

separated : {a b : Lexemes} {es : List Expr} → Separated Kind.Comma Grammar.Expression a es b → AreSpelled a → ShapedAll es × AreSpelled b
separated (Grammar.one h) s = let x = expression h s in ((x.0, tt), x.1)
separated (Grammar.more h t rest) s =
    let x = expression h s in
    let y = separated rest (word t x.1) in
    ((x.0, y.0), y.1)

parameters : {a b : Lexemes} {es : List Expr} → Grammar.ActualParameters a es b → AreSpelled a → ShapedAll es × AreSpelled b
parameters (Grammar.no_actual opened closed) s = (tt, word closed (word opened s))
parameters (Grammar.actuals opened es closed) s = let x = separated es (word opened s) in (x.0, word closed x.1)

actuals : {a b : Lexemes} {es : Option (List Expr)} → Perhaps Grammar.ActualParameters a es b → AreSpelled a → ShapedActuals es × AreSpelled b
actuals Grammar.absent s = (tt, s)
actuals (Grammar.present h) s = parameters h s

mutual
  one_statement : {a b : Lexemes} {x : Stmt} → Grammar.Statement a x b → AreSpelled a → ShapedStatement x × AreSpelled b
  one_statement Grammar.empty s = (tt, s)
  one_statement (Grammar.assignment target selectors t value) s =
      let x = selector selectors (named target s) in
      let y = expression value (word t x.1) in
      ((x.0, y.0), y.1)
  one_statement (Grammar.call name es) s = actuals es (named name s)
  one_statement (Grammar.if' t branches otherwise end) s =
      let x = alternatives branches (taken t s) in
      let y = else_part otherwise x.1 in
      ((x.0, y.0), word end y.1)
  one_statement (Grammar.while t condition do' body end) s =
      let x = expression condition (taken t s) in
      let y = statements body (word do' x.1) in
      ((x.0, y.0), word end y.1)
  one_statement (Grammar.repeat t body until condition) s =
      let x = statements body (taken t s) in
      let y = expression condition (word until x.1) in
      ((x.0, y.0), y.1)

  statements : {a b : Lexemes} {xs : Stmts} → Grammar.StatementSequence a xs b → AreSpelled a → ShapedStatements xs × AreSpelled b
  statements (Grammar.sequence h rest) s =
      let x = one_statement h s in
      let y = more_statements rest x.1 in
      ((x.0, y.0), y.1)

  more_statements : {a b : Lexemes} {xs : Stmts} → Grammar.MoreStatements a xs b → AreSpelled a → ShapedStatements xs × AreSpelled b
  more_statements Grammar.no_more_statements s = (tt, s)
  more_statements (Grammar.more_statements t rest) s = statements rest (word t s)

  alternatives : {a b : Lexemes} {xs : Branches} → Grammar.Alternative a xs b → AreSpelled a → ShapedBranches xs × AreSpelled b
  alternatives (Grammar.alternative condition then body rest) s =
      let x = expression condition s in
      let y = statements body (word then x.1) in
      let z = more_alternatives rest y.1 in
      ((x.0, y.0, z.0), z.1)

  more_alternatives : {a b : Lexemes} {xs : Branches} → Grammar.MoreAlternatives a xs b → AreSpelled a → ShapedBranches xs × AreSpelled b
  more_alternatives Grammar.no_more_alternatives s = (tt, s)
  more_alternatives (Grammar.elsif t rest) s = alternatives rest (word t s)

  else_part : {a b : Lexemes} {x : Otherwise} → Grammar.ElsePart a x b → AreSpelled a → ShapedOtherwise x × AreSpelled b
  else_part Grammar.no_else_part s = (tt, s)
  else_part (Grammar.else_part t body) s = statements body (word t s)

constants : {a b : Lexemes} {xs : List ConstDecl} → Each Grammar.ConstDeclaration a xs b → AreSpelled a → ShapedConstants xs × AreSpelled b
constants Grammar.none s = (tt, s)
constants (Grammar.more (Grammar.constant name equal value semicolon) rest) s =
    let x = expression value (word equal (named name s)) in
    let y = constants rest (word semicolon x.1) in
    ((x.0, y.0), y.1)

constant_part : {a b : Lexemes} {x : Option (DeclarationPart ConstDecl)} → Perhaps (PartBehind Kind.Const (Each Grammar.ConstDeclaration)) a x b → AreSpelled a → ShapedPart x × AreSpelled b
constant_part Grammar.absent s = (tt, s)
constant_part (Grammar.present (Grammar.part t h)) s = constants h (taken t s)

types : {a b : Lexemes} {xs : List TypeDecl} → Each Grammar.TypeDeclaration a xs b → AreSpelled a → AreSpelled b
types Grammar.none s = s
types (Grammar.more (Grammar.type' name equal t semicolon) rest) s =
    types rest (word semicolon (type_taken t (word equal (named name s))))

type_part : {a b : Lexemes} {x : Option (DeclarationPart TypeDecl)} → Perhaps (PartBehind Kind.«Type» (Each Grammar.TypeDeclaration)) a x b → AreSpelled a → AreSpelled b
type_part Grammar.absent s = s
type_part (Grammar.present (Grammar.part t h)) s = types h (taken t s)

variables : {a b : Lexemes} {xs : List VarDecl} → Each Grammar.VarDeclaration a xs b → AreSpelled a → AreSpelled b
variables Grammar.none s = s
variables (Grammar.more (Grammar.variables ns colon t semicolon) rest) s =
    variables rest (word semicolon (type_taken t (word colon (names ns s))))

variable_part : {a b : Lexemes} {x : Option (DeclarationPart VarDecl)} → Perhaps (PartBehind Kind.Var (Each Grammar.VarDeclaration)) a x b → AreSpelled a → AreSpelled b
variable_part Grammar.absent s = s
variable_part (Grammar.present (Grammar.part t h)) s = variables h (taken t s)

mark : {kind : Kind} {a b : Lexemes} {is : _} → TakesWord kind a is b → AreSpelled a → AreSpelled b
mark Grammar.absent s = s
mark (Grammar.present t) s = word t s

section : {a b : Lexemes} {x : Section} → Grammar.FPSection a x b → AreSpelled a → AreSpelled b
section (Grammar.section var ns colon t) s = type_taken t (word colon (names ns (mark var s)))

sections : {a b : Lexemes} {xs : List Section} → Separated Kind.Semicolon Grammar.FPSection a xs b → AreSpelled a → AreSpelled b
sections (Grammar.one h) s = section h s
sections (Grammar.more h t rest) s = sections rest (word t (section h s))

formals : {a b : Lexemes} {x : Option (List Section)} → Perhaps Grammar.FormalParameters a x b → AreSpelled a → AreSpelled b
formals Grammar.absent s = s
formals (Grammar.present (Grammar.no_formal opened closed)) s = word closed (word opened s)
formals (Grammar.present (Grammar.sections opened xs closed)) s = word closed (sections xs (word opened s))

heading : {a b : Lexemes} {x : Heading} → Grammar.ProcedureHeading a x b → AreSpelled a → AreSpelled b
heading (Grammar.heading t name star parameters) s = formals parameters (mark star (named name (taken t s)))

body : {a b : Lexemes} {x : Option Stmts} → BodyPart a x b → AreSpelled a → ShapedBody x × AreSpelled b
body Grammar.absent s = (tt, s)
body (Grammar.present (Grammar.behind t h)) s = statements h (word t s)

mutual
  declarations : {a b : Lexemes} {x : Declarations} → Grammar.DeclarationsPart a x b → AreSpelled a → ShapedDeclarations x × AreSpelled b
  declarations (Grammar.declarations c t v p) s =
      let x = constant_part c s in
      let y = procedures p (variable_part v (type_part t x.1)) in
      ((x.0, y.0), y.1)

  one_procedure : {a b : Lexemes} {x : ProcedureTree} → Grammar.ProcedureDeclaration a x b → AreSpelled a → ShapedDeclarations x.declarations × ShapedBody x.body × AreSpelled b
  one_procedure (Grammar.declares head semicolon inner statements end name) s =
      let x = declarations inner (word semicolon (heading head s)) in
      let y = body statements x.1 in
      (x.0, y.0, named name (word end y.1))

  procedures : {a b : Lexemes} {xs : Procedures} → Grammar.ProcedureDeclarations a xs b → AreSpelled a → ShapedProcedures xs × AreSpelled b
  procedures Grammar.no_more_procedures s = (tt, s)
  procedures (Grammar.procedure h semicolon rest) s =
      let x = one_procedure h s in
      let y = procedures rest (word semicolon x.2) in
      ((x.0, x.1, y.0), y.1)

pub module_shaped : {a b : Lexemes} {m : Module} → Grammar.ModuleText a m b → AreSpelled a → ShapedDeclarations m.declarations × ShapedBody m.body
module_shaped (Grammar.module' t name semicolon d b end end_name dot) s =
    let x = declarations d (word semicolon (named name (word t s))) in
    let y = body b x.1 in
    (x.0, y.0)
