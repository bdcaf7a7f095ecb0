-- What the parts of the checker answer for statements.
use Rattle.std.specs.Prelude.{List, [], ◌∷◌, ◌++◌, Option, Some, None}
use Rattle.ob_grammar.specs.Tree
use Rattle.ob_grammar.specs.Tree.{Expr}
use Rattle.ob_interface.specs.declared.scalar.ScalarType.TheVariants.{Boolean}
use Rattle.ob_typing.specs.declared.rule.Rule.TheVariants.{TypesDiffer}
use Rattle.ob_typing.specs.Program as Programs
use Rattle.ob_typing.specs.Arithmetic.{same_scalar_type}
use Rattle.ob_typing.specs.Scopes.{Environment}
use Rattle.ob_typing.specs.Expressions.{InStatement}
use Rattle.ob_typing.specs.ExpressionFaults.{first_place}
use Rattle.ob_typing.specs.Verdict.{Verdict, Right, ◌>>=◌, test}
use Rattle.ob_typing.specs.ExpressionVerdicts.{expression}
use Rattle.ob_typing.specs.StatementVerdicts.{statement}
use Rattle.ob_checked.specs.declared.program.Statement.{Statement}
use Rattle.ob_checked.specs.View.{statement_of}

-- a condition
abbrev pub condition : Environment → Expr → Verdict Programs.Expression
condition env e = do
  x ← expression env e InStatement
  boolean ← test (same_scalar_type x.type Boolean) TypesDiffer (first_place e)
  Right x.code

-- a call
abbrev pub called : Environment → Tree.Name → Option (List Expr) → Verdict Programs.Statement
called env name actuals = statement env (Tree.Call name actuals)

-- a statement in front of others; none leaves nothing
abbrev pub statement_before : Option Statement → Programs.Statements → Verdict Programs.Statements
statement_before None rest = Right rest
statement_before (Some s) rest = Right (Programs.statement (statement_of s) rest)

-- statements with one more, where there is one
abbrev pub kept : List Statement → Option Statement → List Statement
kept ss None = ss
kept ss (Some s) = ss ++ s ∷ []
