-- The tree of a module without the memory that holds it: what the grammar derives and the rules speak of. A place is a byte offset.
use Rattle.std.specs.Prelude.{ℕ, ℤ, Bool, List, Option}
use Rattle.ob_grammar.specs.declared.tree.Operator.{Operator}
use Rattle.ob_grammar.specs.declared.tree.Sign.{Sign}

-- an occurrence of a name
pub record Name : Type 0 where
  pub text : List ℕ
  pub place : ℕ

mutual
  pub data Expr : Type 0 where
    Number : (value : ℤ) (place : ℕ) → Expr
    Named : (name : Name) (selectors : Selectors) → Expr
    Parens : (place : ℕ) (inner : Expr) → Expr
    Not : (place : ℕ) (operand : Expr) → Expr
    -- two factors or more
    Product : (first : Expr) (rest : Operands) → Expr
    -- a sign, or two terms or more
    Sum : (sign : Option Sign) (first : Expr) (rest : Operands) → Expr
    -- two simple expressions
    Comparison : (left : Expr) (operator : Operator) (place : ℕ) (right : Expr) → Expr

  -- operators, each with its place and the operand to its right
  pub data Operands : Type 0 where
    no_operand : Operands
    operand : (operator : Operator) (place : ℕ) (value : Expr) (rest : Operands) → Operands

  pub data Selectors : Type 0 where
    no_selector : Selectors
    field : (place : ℕ) (name : Name) (rest : Selectors) → Selectors
    index : (place : ℕ) (index : Expr) (rest : Selectors) → Selectors

mutual
  pub data TypeExpr : Type 0 where
    NamedType : (name : Name) → TypeExpr
    Array : (place : ℕ) (length : Expr) (element : TypeExpr) → TypeExpr
    Record : (place : ℕ) (fields : FieldLists) → TypeExpr

  -- what stands between the semicolons of a record: fields of one type, or nothing
  pub data FieldLists : Type 0 where
    no_list : FieldLists
    empty_list : (rest : FieldLists) → FieldLists
    fields : (names : List Name) (of_type : TypeExpr) (rest : FieldLists) → FieldLists

-- one of them that stands alone
pub data OneFieldList : Type 0 where
  empty : OneFieldList
  fields : (names : List Name) (of_type : TypeExpr) → OneFieldList

mutual
  pub data Stmt : Type 0 where
    Empty : Stmt
    Assign : (target : Name) (selectors : Selectors) (value : Expr) → Stmt
    Call : (procedure : Name) (actuals : Option (List Expr)) → Stmt
    If : (place : ℕ) (branches : Branches) (otherwise : Otherwise) → Stmt
    While : (place : ℕ) (condition : Expr) (body : Stmts) → Stmt
    Repeat : (place : ℕ) (body : Stmts) (condition : Expr) → Stmt

  pub data Stmts : Type 0 where
    no_stmt : Stmts
    stmt : (first : Stmt) (rest : Stmts) → Stmts

  pub data Branches : Type 0 where
    no_branch : Branches
    branch : (condition : Expr) (body : Stmts) (rest : Branches) → Branches

  pub data Otherwise : Type 0 where
    no_else : Otherwise
    else' : (body : Stmts) → Otherwise

pub record ConstDecl : Type 0 where
  pub name : Name
  pub value : Expr

pub record TypeDecl : Type 0 where
  pub name : Name
  pub definition : TypeExpr

pub record VarDecl : Type 0 where
  pub names : List Name
  pub of_type : TypeExpr

-- CONST, TYPE or VAR with its place, and what is declared behind it
pub record DeclarationPart (A : Type 0) : Type 0 where
  pub place : ℕ
  pub declared : List A

-- formal parameters of one mode and type
pub record Section : Type 0 where
  pub is_var : Bool
  pub names : List Name
  pub of_type : TypeExpr

-- the heading of a procedure, with the place of PROCEDURE
pub record Heading : Type 0 where
  pub place : ℕ
  pub name : Name
  pub is_exported : Bool
  pub parameters : Option (List Section)

-- a part is none where its keyword does not stand
mutual
  pub data Declarations : Type 0 where
    Declared : (constants : Option (DeclarationPart ConstDecl)) (types : Option (DeclarationPart TypeDecl))
        (variables : Option (DeclarationPart VarDecl)) (procedures : Procedures) → Declarations

  pub data Procedures : Type 0 where
    no_procedure : Procedures
    procedure : (heading : Heading) (declarations : Declarations) (body : Option Stmts) (end_name : Name)
        (rest : Procedures) → Procedures

-- a procedure that stands alone
pub record ProcedureTree : Type 0 where
  pub heading : Heading
  pub declarations : Declarations
  pub body : Option Stmts
  pub end_name : Name

pub record Module : Type 0 where
  pub name : Name
  pub declarations : Declarations
  pub body : Option Stmts
  pub end_name : Name
