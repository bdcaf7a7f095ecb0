-- The checked program that a value of the program stands for: no pointers, vectors as lists, and types in place of numbers.
use Rattle.std.specs.Prelude.{List, [], ◌∷◌, map, Option, Some, None, string_bytes, Vec}
use Rattle.std.specs.declared.alloc.Global.{Global}
use Rattle.ob_typing.specs.Program as Programs
use Rattle.ob_checked.specs.declared.program.Owner.{Owner}
use Rattle.ob_checked.specs.declared.program.Owner.TheVariants as Owners
use Rattle.ob_checked.specs.declared.program.Slot.{Slot}
use Rattle.ob_checked.specs.declared.program.Designator.{Designator}
use Rattle.ob_checked.specs.declared.program.Expression.{Expression, Row_of-Operation, end_of-Operation, more_of-Operation, Row_of-Selector, end_of-Selector, more_of-Selector}
use Rattle.ob_checked.specs.declared.program.Expression.TheVariants.{Literal, ValueOf', Negated', Complement', Computed', Compared'}
use Rattle.ob_checked.specs.declared.program.Operation.{Operation}
use Rattle.ob_checked.specs.declared.program.Selector.{Selector}
use Rattle.ob_checked.specs.declared.program.Selector.TheVariants.{Field, Element}
use Rattle.ob_checked.specs.declared.program.Actual.{Actual}
use Rattle.ob_checked.specs.declared.program.Actual.TheVariants as Actuals
use Rattle.ob_checked.specs.declared.program.Branch.{Branch}
use Rattle.ob_checked.specs.declared.program.Statement.{Statement, Row_of-Statement, end_of-Statement, more_of-Statement, Row_of-Branch, end_of-Branch, more_of-Branch, Held-Statement-If-1, None', Some'}
use Rattle.ob_checked.specs.declared.program.Statement.TheVariants as Statements
use Rattle.ob_checked.specs.declared.program.Parameter.{Parameter}
use Rattle.ob_checked.specs.declared.program.Variable.{Variable}
use Rattle.ob_checked.specs.declared.program.Procedure.{Procedure}
use Rattle.ob_checked.specs.declared.program.Program.{Program}
use Rattle.ob_checked.specs.declared.types.Types.{Types}
use Rattle.ob_checked.specs.Types.{Entry, type_in}

-- the arrays and records of a program, by number
abbrev pub table_of : Types → List Entry
table_of t = t.all.items

abbrev pub owner_of : Owner → Programs.Owner
owner_of Owners.Module = Programs.OfModule
owner_of Owners.Own = Programs.Own

abbrev pub slot_of : Slot → Programs.Slot
slot_of s = record { owner = owner_of s.owner; position = s.position; name = string_bytes s.name }

abbrev mutual
  pub expression_of : Expression → Programs.Expression
  expression_of (Literal s) = Programs.Literal s
  expression_of (ValueOf' type slot shape selectors) = Programs.ValueOf type (Programs.Designated (slot_of slot) (selectors_of selectors))
  expression_of (Negated' p e) = Programs.Negated (expression_of e)
  expression_of (Complement' p e) = Programs.Complement (expression_of e)
  expression_of (Computed' p first shape rest) = Programs.Computed (expression_of first) (operations_of rest)
  expression_of (Compared' relation p left q right) = Programs.Compared relation (expression_of left) (expression_of right)

  pub operations_of : {m : _} → Row_of-Operation m → Programs.Operations
  operations_of end_of-Operation = Programs.no_operation
  operations_of (more_of-Operation operator operand rest) =
      Programs.operation operator (expression_of operand) (operations_of rest)

  pub selectors_of : {m : _} → Row_of-Selector m → Programs.Selectors
  selectors_of end_of-Selector = Programs.no_selector
  selectors_of (more_of-Selector (Field position name) rest) = Programs.field_of position (string_bytes name) (selectors_of rest)
  selectors_of (more_of-Selector (Element length index) rest) = Programs.element_of length (expression_of index) (selectors_of rest)

-- operations that stand outside an expression
abbrev pub operations_in : List Operation → Programs.Operations
operations_in [] = Programs.no_operation
operations_in (o ∷ rest) = Programs.operation o.operator (expression_of o.operand) (operations_in rest)

-- selectors that stand outside an expression
abbrev pub selectors_in : List Selector → Programs.Selectors
selectors_in [] = Programs.no_selector
selectors_in (Field position name ∷ rest) = Programs.field_of position (string_bytes name) (selectors_in rest)
selectors_in (Element length index ∷ rest) = Programs.element_of length (expression_of index) (selectors_in rest)

abbrev pub designator_of : Designator → Programs.Designator
designator_of d = Programs.Designated (slot_of d.slot) (selectors_in d.selectors.items)

abbrev pub actual_of : Actual → Programs.Actual
actual_of (Actuals.Value e) = Programs.ByValue (expression_of e)
actual_of (Actuals.Place d) = Programs.ByPlace (designator_of d)

abbrev mutual
  pub statement_of : Statement → Programs.Statement
  statement_of (Statements.Assign target e) = Programs.Assign (designator_of target) (expression_of e)
  statement_of (Statements.Call procedure actuals) = Programs.Call procedure (map actual_of actuals.items)
  statement_of (Statements.If' shape branches otherwise) = Programs.If (branches_of branches (else_of otherwise))
  statement_of (Statements.While' condition shape body) = Programs.While (expression_of condition) (statements_of body)
  statement_of (Statements.Repeat' shape body condition) = Programs.Repeat (statements_of body) (expression_of condition)

  pub statements_of : {m : _} → Row_of-Statement m → Programs.Statements
  statements_of end_of-Statement = Programs.no_statement
  statements_of (more_of-Statement s rest) = Programs.statement (statement_of s) (statements_of rest)

  -- branches before what stands behind them
  pub branches_of : {m : _} → Row_of-Branch m → Programs.Branches → Programs.Branches
  branches_of end_of-Branch last = last
  branches_of (more_of-Branch condition shape body rest) last =
      Programs.branch (expression_of condition) (statements_of body) (branches_of rest last)

  pub else_of : Held-Statement-If-1 → Programs.Branches
  else_of None' = Programs.no_branch
  else_of (Some' shape body) = Programs.otherwise (statements_of body)

-- the statements of a body
abbrev pub statements_in : List Statement → Programs.Statements
statements_in [] = Programs.no_statement
statements_in (s ∷ rest) = Programs.statement (statement_of s) (statements_in rest)

-- what stands behind ELSE
abbrev pub otherwise_of : Option (Vec Statement Global) → Programs.Branches
otherwise_of None = Programs.no_branch
otherwise_of (Some body) = Programs.otherwise (statements_in body.items)

-- branches that stand outside a statement, before what stands behind them
abbrev pub branches_in : List Branch → Programs.Branches → Programs.Branches
branches_in [] last = last
branches_in (b ∷ rest) last = Programs.branch (expression_of b.condition) (statements_in b.body.items) (branches_in rest last)

module _ (types : List Entry) where
  abbrev pub parameter_of : Parameter → Programs.Parameter
  parameter_of p = record { name = string_bytes p.name; is_var = p.is_var; type = type_in types p.data_type }

  abbrev pub variable_of : Variable → Programs.Variable
  variable_of v = record { name = string_bytes v.name; type = type_in types v.data_type }

  abbrev pub procedure_of : Procedure → Programs.Procedure
  procedure_of p =
      record {
        name = string_bytes p.name;
        is_exported = p.is_exported;
        parameters = map parameter_of p.parameters.items;
        variables = map variable_of p.variables.items;
        body = statements_in p.body.items;
      }

abbrev pub program_of : Program → Programs.Program
program_of p =
    record {
      variables = map (variable_of (table_of p.types)) p.variables.items;
      procedures = map (procedure_of (table_of p.types)) p.procedures.items;
      body = statements_in p.body.items;
    }
