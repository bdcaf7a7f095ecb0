-- The checked program: each name resolved to its position, each constant its value, each expression with its type.
-- A name is the list of its bytes. A position counts, from 0, what a scope or a record declares in text order.
use Rattle.std.specs.Prelude.{ℕ, Bool, List, filter}
use Rattle.ob_interface.specs.declared.scalar.Scalar.{Scalar}
use Rattle.ob_interface.specs.declared.scalar.ScalarType.{ScalarType}
use Rattle.ob_typing.specs.declared.operator.BinaryOperator.{BinaryOperator}
use Rattle.ob_typing.specs.declared.operator.Relation.{Relation}

abbrev pub Name : Type 0
Name = List ℕ

-- a type; a structured one has the place of its ARRAY or RECORD, which tells it from all others
mutual
  pub data DataType : Type 0 where
    Simple : (type : ScalarType) → DataType
    Array : (place length : ℕ) (element : DataType) → DataType
    Record : (place : ℕ) (fields : Fields) → DataType

  -- the fields of a record in text order
  pub data Fields : Type 0 where
    no_field : Fields
    field : (name : Name) (type : DataType) (rest : Fields) → Fields

-- whose a variable is: the module's, or the procedure's own
pub data Owner : Type 0 where
  OfModule : Owner
  Own : Owner

-- a variable: its owner, its position among the owner's parameters and variables, and its name
pub record Slot : Type 0 where
  pub owner : Owner
  pub position : ℕ
  pub name : Name

mutual
  -- an expression with a scalar value
  pub data Expression : Type 0 where
    Literal : (value : Scalar) → Expression
    ValueOf : (type : ScalarType) (variable : Designator) → Expression
    Negated : (operand : Expression) → Expression
    Complement : (operand : Expression) → Expression
    Computed : (first : Expression) (rest : Operations) → Expression
    Compared : (relation : Relation) (left right : Expression) → Expression

  -- from the left, operators each with the operand to its right
  pub data Operations : Type 0 where
    no_operation : Operations
    operation : (operator : BinaryOperator) (operand : Expression) (rest : Operations) → Operations

  -- a variable or a part of it
  pub data Designator : Type 0 where
    Designated : (slot : Slot) (selectors : Selectors) → Designator

  pub data Selectors : Type 0 where
    no_selector : Selectors
    field_of : (position : ℕ) (name : Name) (rest : Selectors) → Selectors
    element_of : (length : ℕ) (index : Expression) (rest : Selectors) → Selectors

-- what a call passes: the value of an expression, or the place of a variable
pub data Actual : Type 0 where
  ByValue : (expression : Expression) → Actual
  ByPlace : (variable : Designator) → Actual

mutual
  -- a statement; an empty one leaves nothing
  pub data Statement : Type 0 where
    Assign : (target : Designator) (expression : Expression) → Statement
    -- the number of the procedure in the order of headings
    Call : (procedure : ℕ) (actuals : List Actual) → Statement
    If : (branches : Branches) → Statement
    While : (condition : Expression) (body : Statements) → Statement
    Repeat : (body : Statements) (condition : Expression) → Statement

  pub data Statements : Type 0 where
    no_statement : Statements
    statement : (first : Statement) (rest : Statements) → Statements

  -- IF and ELSIF with their statements, and at the end ELSE or nothing
  pub data Branches : Type 0 where
    no_branch : Branches
    otherwise : (statements : Statements) → Branches
    branch : (condition : Expression) (statements : Statements) (rest : Branches) → Branches

pub record Parameter : Type 0 where
  pub name : Name
  pub is_var : Bool
  pub type : DataType

pub record Variable : Type 0 where
  pub name : Name
  pub type : DataType

pub record Procedure : Type 0 where
  pub name : Name
  pub is_exported : Bool
  pub parameters : List Parameter
  pub variables : List Variable
  pub body : Statements

-- variables in text order, procedures in the order of their headings
pub record Program : Type 0 where
  pub variables : List Variable
  pub procedures : List Procedure
  pub body : Statements

-- the exported procedures in text order
abbrev pub exports : Program → List Procedure
exports program = filter (λ p. p.is_exported) program.procedures
