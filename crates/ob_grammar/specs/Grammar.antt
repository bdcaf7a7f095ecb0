-- The grammar. In each relation the list on the left begins with the phrase, and the list on the right is what stands behind it.
use Rattle.std.specs.Prelude.{ℕ, pos, Bool, true, false, List, [], ◌∷◌, ◌++◌, Option, Some, None}
use Rattle.ob_scan.specs.declared.token.Kind.{Kind}
use Rattle.ob_scan.specs.Spelling.{number_value}
use Rattle.ob_scan.specs.Lexemes.{Lexeme, lexeme}
use Rattle.ob_grammar.specs.declared.tree.Operator.{Operator}
use Rattle.ob_grammar.specs.declared.tree.Sign.{Sign}
use Rattle.ob_grammar.specs.Tree
use Rattle.ob_grammar.specs.Tree.{Name, Expr, Operands, no_operand, operand, Selectors, no_selector, TypeExpr, FieldLists, no_list, empty_list, OneFieldList, Stmt, Stmts, no_stmt, stmt, Branches, no_branch, branch, Otherwise, no_else, else', ConstDecl, TypeDecl, VarDecl, DeclarationPart, Section, Heading, Declarations, Declared, Procedures, no_procedure, ProcedureTree, Module}

-- tokens with their bytes
abbrev pub Lexemes : Type 0
Lexemes = List Lexeme

-- a phrase of the grammar: from some tokens, a part of the tree, and the tokens behind it
abbrev pub Phrase : Type 0 → Type 1
Phrase A = Lexemes → A → Lexemes → Type 0

-- a token of a kind, at a place
pub data TakesAt : Kind → ℕ → Lexemes → Lexemes → Type 0 where
  takes : {kind : Kind} {place : ℕ} {bytes : List ℕ} {rest : Lexemes} →
      TakesAt kind place (lexeme kind place bytes ∷ rest) rest

-- a token of a kind
abbrev pub Takes : Kind → Lexemes → Lexemes → Type 0
Takes kind a b = (place : ℕ) × TakesAt kind place a b

-- ident
pub data TakesName : Lexemes → Name → Lexemes → Type 0 where
  takes : {name : Name} {rest : Lexemes} →
      TakesName (lexeme Kind.Ident name.place name.text ∷ rest) name rest

-- ["word"], as whether it stands there
pub data TakesWord (word : Kind) : Lexemes → Bool → Lexemes → Type 0 where
  absent : {a : Lexemes} → TakesWord word a false a
  present : {a b : Lexemes} → Takes word a b → TakesWord word a true b

-- {phrase}
pub data Each {A : Type 0} (R : Phrase A) : Lexemes → List A → Lexemes → Type 0 where
  none : {a : Lexemes} → Each R a [] a
  more : {a b c : Lexemes} {x : A} {xs : List A} → R a x b → Each R b xs c → Each R a (x ∷ xs) c

-- phrase {separator phrase}
pub data Separated {A : Type 0} (separator : Kind) (R : Phrase A) : Lexemes → List A → Lexemes → Type 0 where
  one : {a b : Lexemes} {x : A} → R a x b → Separated separator R a (x ∷ []) b
  more : {a b c d : Lexemes} {x : A} {xs : List A} →
      R a x b → Takes separator b c → Separated separator R c xs d → Separated separator R a (x ∷ xs) d

-- [phrase]
pub data Perhaps {A : Type 0} (R : Phrase A) : Lexemes → Option A → Lexemes → Type 0 where
  absent : {a : Lexemes} → Perhaps R a None a
  present : {a b : Lexemes} {x : A} → R a x b → Perhaps R a (Some x) b

-- "word" phrase
pub data Behind {A : Type 0} (word : Kind) (R : Phrase A) : Lexemes → A → Lexemes → Type 0 where
  behind : {a b c : Lexemes} {x : A} → Takes word a b → R b x c → Behind word R a x c

-- "word" phrase, with the place of the word
pub data PartBehind {A : Type 0} (word : Kind) (R : Phrase (List A)) : Lexemes → DeclarationPart A → Lexemes → Type 0 where
  part : {a b c : Lexemes} {x : DeclarationPart A} → TakesAt word x.place a b → R b x.declared c → PartBehind word R a x c

-- "=" "#" "<" "<=" ">" ">="
pub data IsRelation : Kind → Operator → Type 0 where
  equal : IsRelation Kind.Equal Operator.Equal
  not_equal : IsRelation Kind.NotEqual Operator.NotEqual
  less : IsRelation Kind.Less Operator.Less
  less_or_equal : IsRelation Kind.LessOrEqual Operator.LessOrEqual
  greater : IsRelation Kind.Greater Operator.Greater
  greater_or_equal : IsRelation Kind.GreaterOrEqual Operator.GreaterOrEqual

-- "+" "-" "OR"
pub data IsAddition : Kind → Operator → Type 0 where
  plus : IsAddition Kind.Plus Operator.Plus
  minus : IsAddition Kind.Minus Operator.Minus
  or : IsAddition Kind.Or Operator.Or

-- "*" "DIV" "MOD" "&"
pub data IsMultiplication : Kind → Operator → Type 0 where
  times : IsMultiplication Kind.Times Operator.Times
  div : IsMultiplication Kind.Div Operator.Div
  mod' : IsMultiplication Kind.Mod Operator.Mod
  and : IsMultiplication Kind.And Operator.And

-- "+" | "-"
pub data TakesSign : Lexemes → Sign → Lexemes → Type 0 where
  plus : {a b : Lexemes} {place : ℕ} →
      TakesAt Kind.Plus place a b → TakesSign a (record { is_minus = false; place = place }) b
  minus : {a b : Lexemes} {place : ℕ} →
      TakesAt Kind.Minus place a b → TakesSign a (record { is_minus = true; place = place }) b

mutual
  -- expression = SimpleExpression [("=" | "#" | "<" | "<=" | ">" | ">=") SimpleExpression]
  pub data Expression : Lexemes → Expr → Lexemes → Type 0 where
    simple : {a b : Lexemes} {e : Expr} → SimpleExpression a e b → Expression a e b
    comparison : {a b c d : Lexemes} {left right : Expr} {kind : Kind} {operator : Operator} {place : ℕ} →
        SimpleExpression a left b →
        IsRelation kind operator → TakesAt kind place b c → SimpleExpression c right d →
        Expression a (Tree.Comparison left operator place right) d

  -- SimpleExpression = ["+" | "-"] term {("+" | "-" | "OR") term}; a term alone is that term
  pub data SimpleExpression : Lexemes → Expr → Lexemes → Type 0 where
    one_term : {a b : Lexemes} {e : Expr} → Term a e b → SimpleExpression a e b
    signed : {a b c d : Lexemes} {sign : Sign} {first : Expr} {rest : Operands} →
        TakesSign a sign b → Term b first c → Terms c rest d →
        SimpleExpression a (Tree.Sum (Some sign) first rest) d
    sum : {a b c d e : Lexemes} {first second : Expr} {kind : Kind} {operator : Operator} {place : ℕ} {rest : Operands} →
        Term a first b →
        IsAddition kind operator → TakesAt kind place b c → Term c second d → Terms d rest e →
        SimpleExpression a (Tree.Sum None first (operand operator place second rest)) e

  -- {("+" | "-" | "OR") term}
  pub data Terms : Lexemes → Operands → Lexemes → Type 0 where
    no_term : {a : Lexemes} → Terms a no_operand a
    more_terms : {a b c d : Lexemes} {kind : Kind} {operator : Operator} {place : ℕ} {e : Expr} {rest : Operands} →
        IsAddition kind operator → TakesAt kind place a b → Term b e c → Terms c rest d →
        Terms a (operand operator place e rest) d

  -- term = factor {("*" | "DIV" | "MOD" | "&") factor}; a factor alone is that factor
  pub data Term : Lexemes → Expr → Lexemes → Type 0 where
    one_factor : {a b : Lexemes} {e : Expr} → Factor a e b → Term a e b
    product : {a b c d e : Lexemes} {first second : Expr} {kind : Kind} {operator : Operator} {place : ℕ} {rest : Operands} →
        Factor a first b →
        IsMultiplication kind operator → TakesAt kind place b c → Factor c second d → Factors d rest e →
        Term a (Tree.Product first (operand operator place second rest)) e

  -- {("*" | "DIV" | "MOD" | "&") factor}
  pub data Factors : Lexemes → Operands → Lexemes → Type 0 where
    no_factor : {a : Lexemes} → Factors a no_operand a
    more_factors : {a b c d : Lexemes} {kind : Kind} {operator : Operator} {place : ℕ} {e : Expr} {rest : Operands} →
        IsMultiplication kind operator → TakesAt kind place a b → Factor b e c → Factors c rest d →
        Factors a (operand operator place e rest) d

  -- factor = ident selector | number | "(" expression ")" | "~" factor
  pub data Factor : Lexemes → Expr → Lexemes → Type 0 where
    named : {a b c : Lexemes} {name : Name} {selectors : Selectors} →
        TakesName a name b → Selector b selectors c →
        Factor a (Tree.Named name selectors) c
    number : {place : ℕ} {bytes : List ℕ} {rest : Lexemes} →
        Factor (lexeme Kind.Number place bytes ∷ rest) (Tree.Number (pos (number_value bytes)) place) rest
    parens : {a b c d : Lexemes} {place : ℕ} {inner : Expr} →
        TakesAt Kind.LeftParen place a b → Expression b inner c → Takes Kind.RightParen c d →
        Factor a (Tree.Parens place inner) d
    not : {a b c : Lexemes} {place : ℕ} {e : Expr} →
        TakesAt Kind.Not place a b → Factor b e c →
        Factor a (Tree.Not place e) c

  -- selector = {"." ident | "[" expression "]"}
  pub data Selector : Lexemes → Selectors → Lexemes → Type 0 where
    no_more : {a : Lexemes} → Selector a no_selector a
    field : {a b c d : Lexemes} {place : ℕ} {name : Name} {rest : Selectors} →
        TakesAt Kind.Dot place a b → TakesName b name c → Selector c rest d →
        Selector a (Tree.field place name rest) d
    index : {a b c d e : Lexemes} {place : ℕ} {i : Expr} {rest : Selectors} →
        TakesAt Kind.LeftBracket place a b → Expression b i c → Takes Kind.RightBracket c d → Selector d rest e →
        Selector a (Tree.index place i rest) e

-- IdentList = ident {"," ident}
abbrev pub IdentList : Phrase (List Name)
IdentList = Separated Kind.Comma TakesName

mutual
  -- type = ident | ArrayType | RecordType
  pub data IsType : Lexemes → TypeExpr → Lexemes → Type 0 where
    named_type : {a b : Lexemes} {name : Name} → TakesName a name b → IsType a (Tree.NamedType name) b
    -- ArrayType = "ARRAY" expression "OF" type
    array : {a b c d e : Lexemes} {place : ℕ} {length : Expr} {element : TypeExpr} →
        TakesAt Kind.Array place a b → Expression b length c → Takes Kind.Of c d → IsType d element e →
        IsType a (Tree.Array place length element) e
    -- RecordType = "RECORD" FieldList {";" FieldList} "END"
    record' : {a b c d : Lexemes} {place : ℕ} {lists : FieldLists} →
        TakesAt Kind.Record place a b → FieldListSequence b lists c → Takes Kind.End c d →
        IsType a (Tree.Record place lists) d

  -- FieldList = [IdentList ":" type]
  pub data FieldList : Lexemes → OneFieldList → Lexemes → Type 0 where
    empty : {a : Lexemes} → FieldList a OneFieldList.empty a
    fields : {a b c d : Lexemes} {names : List Name} {of_type : TypeExpr} →
        IdentList a names b → Takes Kind.Colon b c → IsType c of_type d →
        FieldList a (OneFieldList.fields names of_type) d

  -- FieldList {";" FieldList}
  pub data FieldListSequence : Lexemes → FieldLists → Lexemes → Type 0 where
    first_empty : {a b c : Lexemes} {rest : FieldLists} →
        FieldList a OneFieldList.empty b → MoreFields b rest c → FieldListSequence a (empty_list rest) c
    first_fields : {a b c : Lexemes} {names : List Name} {of_type : TypeExpr} {rest : FieldLists} →
        FieldList a (OneFieldList.fields names of_type) b → MoreFields b rest c →
        FieldListSequence a (Tree.fields names of_type rest) c

  -- {";" FieldList}
  pub data MoreFields : Lexemes → FieldLists → Lexemes → Type 0 where
    no_more_fields : {a : Lexemes} → MoreFields a no_list a
    more_fields : {a b c : Lexemes} {lists : FieldLists} →
        Takes Kind.Semicolon a b → FieldListSequence b lists c → MoreFields a lists c

-- ActualParameters = "(" [expression {"," expression}] ")"
pub data ActualParameters : Lexemes → List Expr → Lexemes → Type 0 where
  no_actual : {a b c : Lexemes} → Takes Kind.LeftParen a b → Takes Kind.RightParen b c → ActualParameters a [] c
  actuals : {a b c d : Lexemes} {es : List Expr} →
      Takes Kind.LeftParen a b → Separated Kind.Comma Expression b es c → Takes Kind.RightParen c d →
      ActualParameters a es d

mutual
  -- statement = [assignment | ProcedureCall | IfStatement | WhileStatement | RepeatStatement]
  pub data Statement : Lexemes → Stmt → Lexemes → Type 0 where
    empty : {a : Lexemes} → Statement a Tree.Empty a
    -- assignment = ident selector ":=" expression
    assignment : {a b c d e : Lexemes} {target : Name} {selectors : Selectors} {value : Expr} →
        TakesName a target b → Selector b selectors c → Takes Kind.Assign c d → Expression d value e →
        Statement a (Tree.Assign target selectors value) e
    -- ProcedureCall = ident [ActualParameters]
    call : {a b c : Lexemes} {procedure : Name} {actuals : Option (List Expr)} →
        TakesName a procedure b → Perhaps ActualParameters b actuals c →
        Statement a (Tree.Call procedure actuals) c
    -- IfStatement = "IF" expression "THEN" StatementSequence {"ELSIF" expression "THEN" StatementSequence} ["ELSE" StatementSequence] "END"
    if' : {a b c d e : Lexemes} {place : ℕ} {branches : Branches} {otherwise : Otherwise} →
        TakesAt Kind.If place a b → Alternative b branches c → ElsePart c otherwise d → Takes Kind.End d e →
        Statement a (Tree.If place branches otherwise) e
    -- WhileStatement = "WHILE" expression "DO" StatementSequence "END"
    while : {a b c d e f : Lexemes} {place : ℕ} {condition : Expr} {body : Stmts} →
        TakesAt Kind.While place a b → Expression b condition c → Takes Kind.Do c d →
        StatementSequence d body e → Takes Kind.End e f →
        Statement a (Tree.While place condition body) f
    -- RepeatStatement = "REPEAT" StatementSequence "UNTIL" expression
    repeat : {a b c d e : Lexemes} {place : ℕ} {body : Stmts} {condition : Expr} →
        TakesAt Kind.Repeat place a b → StatementSequence b body c →
        Takes Kind.Until c d → Expression d condition e →
        Statement a (Tree.Repeat place body condition) e

  -- StatementSequence = statement {";" statement}
  pub data StatementSequence : Lexemes → Stmts → Lexemes → Type 0 where
    sequence : {a b c : Lexemes} {s : Stmt} {rest : Stmts} →
        Statement a s b → MoreStatements b rest c → StatementSequence a (stmt s rest) c

  -- {";" statement}
  pub data MoreStatements : Lexemes → Stmts → Lexemes → Type 0 where
    no_more_statements : {a : Lexemes} → MoreStatements a no_stmt a
    more_statements : {a b c : Lexemes} {rest : Stmts} →
        Takes Kind.Semicolon a b → StatementSequence b rest c → MoreStatements a rest c

  -- expression "THEN" StatementSequence {"ELSIF" expression "THEN" StatementSequence}
  pub data Alternative : Lexemes → Branches → Lexemes → Type 0 where
    alternative : {a b c d e : Lexemes} {condition : Expr} {body : Stmts} {rest : Branches} →
        Expression a condition b → Takes Kind.Then b c → StatementSequence c body d → MoreAlternatives d rest e →
        Alternative a (branch condition body rest) e

  -- {"ELSIF" expression "THEN" StatementSequence}
  pub data MoreAlternatives : Lexemes → Branches → Lexemes → Type 0 where
    no_more_alternatives : {a : Lexemes} → MoreAlternatives a no_branch a
    elsif : {a b c : Lexemes} {rest : Branches} →
        Takes Kind.Elsif a b → Alternative b rest c → MoreAlternatives a rest c

  -- ["ELSE" StatementSequence]
  pub data ElsePart : Lexemes → Otherwise → Lexemes → Type 0 where
    no_else_part : {a : Lexemes} → ElsePart a no_else a
    else_part : {a b c : Lexemes} {body : Stmts} →
        Takes Kind.Else a b → StatementSequence b body c → ElsePart a (else' body) c

-- ident "=" expression ";"
pub data ConstDeclaration : Lexemes → ConstDecl → Lexemes → Type 0 where
  constant : {a b c d e : Lexemes} {x : ConstDecl} →
      TakesName a x.name b → Takes Kind.Equal b c → Expression c x.value d → Takes Kind.Semicolon d e →
      ConstDeclaration a x e

-- ident "=" type ";"
pub data TypeDeclaration : Lexemes → TypeDecl → Lexemes → Type 0 where
  type' : {a b c d e : Lexemes} {x : TypeDecl} →
      TakesName a x.name b → Takes Kind.Equal b c → IsType c x.definition d → Takes Kind.Semicolon d e →
      TypeDeclaration a x e

-- IdentList ":" type ";"
pub data VarDeclaration : Lexemes → VarDecl → Lexemes → Type 0 where
  variables : {a b c d e : Lexemes} {x : VarDecl} →
      IdentList a x.names b → Takes Kind.Colon b c → IsType c x.of_type d → Takes Kind.Semicolon d e →
      VarDeclaration a x e

-- FPSection = ["VAR"] IdentList ":" type
pub data FPSection : Lexemes → Section → Lexemes → Type 0 where
  section : {a b c d e : Lexemes} {x : Section} →
      TakesWord Kind.Var a x.is_var b → IdentList b x.names c → Takes Kind.Colon c d → IsType d x.of_type e →
      FPSection a x e

-- FormalParameters = "(" [FPSection {";" FPSection}] ")"
pub data FormalParameters : Lexemes → List Section → Lexemes → Type 0 where
  no_formal : {a b c : Lexemes} → Takes Kind.LeftParen a b → Takes Kind.RightParen b c → FormalParameters a [] c
  sections : {a b c d : Lexemes} {xs : List Section} →
      Takes Kind.LeftParen a b → Separated Kind.Semicolon FPSection b xs c → Takes Kind.RightParen c d →
      FormalParameters a xs d

-- ProcedureHeading = "PROCEDURE" ident ["*"] [FormalParameters]
pub data ProcedureHeading : Lexemes → Heading → Lexemes → Type 0 where
  heading : {a b c d e : Lexemes} {h : Heading} →
      TakesAt Kind.Procedure h.place a b → TakesName b h.name c → TakesWord Kind.Times c h.is_exported d →
      Perhaps FormalParameters d h.parameters e →
      ProcedureHeading a h e

-- ["BEGIN" StatementSequence]
abbrev pub BodyPart : Phrase (Option Stmts)
BodyPart = Perhaps (Behind Kind.Begin StatementSequence)

mutual
  -- declarations = ["CONST" {ident "=" expression ";"}] ["TYPE" {ident "=" type ";"}]
  --   ["VAR" {IdentList ":" type ";"}] {ProcedureDeclaration ";"}
  pub data DeclarationsPart : Lexemes → Declarations → Lexemes → Type 0 where
    declarations : {a b c d e : Lexemes} {constants : Option (DeclarationPart ConstDecl)} {types : Option (DeclarationPart TypeDecl)}
        {variables : Option (DeclarationPart VarDecl)} {procedures : Procedures} →
        Perhaps (PartBehind Kind.Const (Each ConstDeclaration)) a constants b →
        Perhaps (PartBehind Kind.«Type» (Each TypeDeclaration)) b types c →
        Perhaps (PartBehind Kind.Var (Each VarDeclaration)) c variables d →
        ProcedureDeclarations d procedures e →
        DeclarationsPart a (Declared constants types variables procedures) e

  -- ProcedureDeclaration = ProcedureHeading ";" declarations ["BEGIN" StatementSequence] "END" ident
  pub data ProcedureDeclaration : Lexemes → ProcedureTree → Lexemes → Type 0 where
    declares : {a b c d e f g : Lexemes} {x : ProcedureTree} →
        ProcedureHeading a x.heading b → Takes Kind.Semicolon b c →
        DeclarationsPart c x.declarations d → BodyPart d x.body e → Takes Kind.End e f → TakesName f x.end_name g →
        ProcedureDeclaration a x g

  -- {ProcedureDeclaration ";"}
  pub data ProcedureDeclarations : Lexemes → Procedures → Lexemes → Type 0 where
    no_more_procedures : {a : Lexemes} → ProcedureDeclarations a no_procedure a
    procedure : {a b c d : Lexemes} {head : Heading} {inner : Declarations} {body : Option Stmts} {end_name : Name} {rest : Procedures} →
        ProcedureDeclaration a (record { heading = head; declarations = inner; body = body; end_name = end_name }) b →
        Takes Kind.Semicolon b c → ProcedureDeclarations c rest d →
        ProcedureDeclarations a (Tree.procedure head inner body end_name rest) d

-- module = "MODULE" ident ";" declarations ["BEGIN" StatementSequence] "END" ident "."
pub data ModuleText : Lexemes → Module → Lexemes → Type 0 where
  module' : {a b c d e f g h i : Lexemes} {m : Module} →
      Takes Kind.Module a b → TakesName b m.name c → Takes Kind.Semicolon c d →
      DeclarationsPart d m.declarations e → BodyPart e m.body f →
      Takes Kind.End f g → TakesName g m.end_name h → Takes Kind.Dot h i →
      ModuleText a m i

-- these tokens and no more derive this module, by the productions alone
abbrev pub Derives : Lexemes → Module → Type 0
Derives tokens m = ModuleText tokens m []

-- some continuation of these tokens derives a module
abbrev pub BeginsModule : Lexemes → Type 0
BeginsModule tokens = (more : Lexemes) × (m : Module) × Derives (tokens ++ more) m
