-- The verdict on a statement.
use Rattle.std.specs.Prelude.{ℕ, Bool, true, false, List, [], ◌∷◌, length, Option, Some, None, nat_eq, if◌then◌else◌}
use Rattle.ob_grammar.specs.Tree
use Rattle.ob_grammar.specs.Tree.{Expr, Selectors, Stmt, Stmts, Branches, Otherwise}
use Rattle.ob_interface.specs.declared.scalar.ScalarType.TheVariants.{Boolean}
use Rattle.ob_typing.specs.declared.rule.Rule.TheVariants.{TypesDiffer, BadActuals}
use Rattle.ob_typing.specs.Program
use Rattle.ob_typing.specs.Program.{DataType, Slot, Designator, Designated, Actual, ByValue, ByPlace, Statement, Statements, Parameter}
use Rattle.ob_typing.specs.Arithmetic.{same_scalar_type}
use Rattle.ob_typing.specs.Scopes.{Environment, Meant, AVariable, AProcedure, meant, type_meant, holds, same_type}
use Rattle.ob_typing.specs.Expressions.{InStatement}
use Rattle.ob_typing.specs.ExpressionFaults.{broken, first_place}
use Rattle.ob_typing.specs.Statements.{listed, bare}
use Rattle.ob_typing.specs.StatementFaults.{place_broken, procedure_broken}
use Rattle.ob_typing.specs.Verdict.{Verdict, Right, Wrong, Foreign, ◌>>=◌, need, test, unless}
use Rattle.ob_typing.specs.ExpressionVerdicts.{expression, selecting}

-- a variable or a part of it, with its type
pub record Designation : Type 0 where
  pub type : DataType
  pub variable : Designator

-- the variable that a name stands for
abbrev pub slot_meant : Meant → Option Slot
slot_meant (AVariable slot t) = Some slot
slot_meant _ = None

-- the procedure that a name stands for, with its parameters
abbrev pub procedure_meant : Meant → Option (ℕ × List Parameter)
procedure_meant (AProcedure n ps) = Some (n, ps)
procedure_meant _ = None

-- the statement of no symbols, which is left out
abbrev pub is_empty : Stmt → Bool
is_empty Tree.Empty = true
is_empty _ = false

module _ (env : Environment) where
  -- the name, and then its selectors
  abbrev pub designated : Tree.Name → Selectors → Verdict Designation
  designated name selectors = do
    known ← unless (place_broken (meant env name.text)) name.place
    s ← need (type_meant (meant env name.text))
    path ← selecting env selectors InStatement s
    slot ← need (slot_meant (meant env name.text))
    Right (record { type = path.type; variable = Designated slot path.selectors })

  -- the actual of a value parameter: an expression of its type
  abbrev pub value_actual : Parameter → Expr → Verdict Actual
  value_actual p e = do
    x ← expression env e InStatement
    same ← test (holds p.type x.type) TypesDiffer (first_place e)
    Right (ByValue x.code)

  -- the actual of a VAR parameter, by what it is as a bare name: a variable of the same type; an expression is tested for its type before it is refused
  abbrev pub place_actual : Parameter → Expr → Option (Tree.Name × Selectors) → Verdict Actual
  place_actual p e (Some (name, selectors)) = do
    d ← designated name selectors
    same ← test (same_type d.type p.type) TypesDiffer (first_place e)
    Right (ByPlace d.variable)
  place_actual p e None = do
    x ← expression env e InStatement
    same ← test (holds p.type x.type) TypesDiffer (first_place e)
    Wrong (broken BadActuals (first_place e))

  abbrev pub actual : Parameter → Expr → Verdict Actual
  actual p e = if p.is_var then place_actual p e (bare env e) else value_actual p e

  -- as many actuals as parameters, one after the other
  abbrev pub actuals : List Parameter → List Expr → Verdict (List Actual)
  actuals [] [] = Right []
  actuals [] (e ∷ es) = Foreign
  actuals (p ∷ ps) [] = Foreign
  actuals (p ∷ ps) (e ∷ es) = do
    c ← actual p e
    cs ← actuals ps es
    Right (c ∷ cs)

  abbrev mutual
    pub statement : Stmt → Verdict Statement
    statement Tree.Empty = Foreign
    -- the variable, the expression, and then that it has the variable's type
    statement (Tree.Assign name selectors e) = do
      d ← designated name selectors
      x ← expression env e InStatement
      same ← test (holds d.type x.type) TypesDiffer (first_place e)
      Right (Program.Assign d.variable x.code)
    -- the procedure, the number of actuals, and then each of them
    statement (Tree.Call name es) = do
      known ← unless (procedure_broken (meant env name.text)) name.place
      p ← need (procedure_meant (meant env name.text))
      count ← test (nat_eq (length (listed es)) (length p.1)) BadActuals name.place
      cs ← actuals p.1 (listed es)
      Right (Program.Call p.0 cs)
    statement (Tree.If place bs o) = do
      c ← branches bs (otherwise o)
      Right (Program.If c)
    -- a condition is a BOOLEAN, before what it guards
    statement (Tree.While place e body) = do
      x ← expression env e InStatement
      boolean ← test (same_scalar_type x.type Boolean) TypesDiffer (first_place e)
      ss ← statements body
      Right (Program.While x.code ss)
    -- the statements, and then the condition behind them
    statement (Tree.Repeat place body e) = do
      ss ← statements body
      x ← expression env e InStatement
      boolean ← test (same_scalar_type x.type Boolean) TypesDiffer (first_place e)
      Right (Program.Repeat ss x.code)

    -- one after the other
    pub statements : Stmts → Verdict Statements
    statements Tree.no_stmt = Right Program.no_statement
    statements (Tree.stmt s rest) =
        if is_empty s then statements rest
        else ◌>>=◌ (statement s) (λ c. ◌>>=◌ (statements rest) (λ cs. Right (Program.statement c cs)))

    -- branches before what ELSE comes to
    pub branches : Branches → Verdict Program.Branches → Verdict Program.Branches
    branches Tree.no_branch last = last
    branches (Tree.branch e body rest) last = do
      x ← expression env e InStatement
      boolean ← test (same_scalar_type x.type Boolean) TypesDiffer (first_place e)
      ss ← statements body
      bs ← branches rest last
      Right (Program.branch x.code ss bs)

    pub otherwise : Otherwise → Verdict Program.Branches
    otherwise Tree.no_else = Right Program.no_branch
    otherwise (Tree.else' body) = do
      ss ← statements body
      Right (Program.otherwise ss)

  -- no body does nothing
  abbrev pub body_checked : Option Stmts → Verdict Statements
  body_checked None = Right Program.no_statement
  body_checked (Some body) = statements body
