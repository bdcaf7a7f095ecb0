-- A statement has one verdict.
use Rattle.std.proofs.Common.{◌≡◌, refl, false, List, Option, eq-eqb}
use Rattle.std.proofs.lemmas.Bool.{ne_eqb}
use Rattle.ob_grammar.specs.Tree
use Rattle.ob_grammar.specs.Tree.{Expr, Selectors, Stmt, Stmts, Branches, Otherwise}
use Rattle.ob_typing.specs.declared.rule.BrokenRule.{BrokenRule}
use Rattle.ob_typing.specs.Program
use Rattle.ob_typing.specs.Program.{DataType, Designator, Actual, Statement, Statements, Parameter}
use Rattle.ob_typing.specs.Scopes.{Environment}
use Rattle.ob_typing.specs.Expressions
use Rattle.ob_typing.specs.Expressions.{IsVariable}
use Rattle.ob_typing.specs.Statements as Typing
use Rattle.ob_typing.specs.Statements.{IsActual, Fits, IsStatement, AreStatements, AreBranches, IsBody}
use Rattle.ob_typing.specs.StatementFaults as Faults
use Rattle.ob_typing.specs.StatementFaults.{DesignatorFails, ActualFails, ActualsFail, StatementFails, StatementsFail, BranchesFail}
use Rattle.ob_typing.specs.DeclarationFaults as DeclarationFaults
use Rattle.ob_typing.specs.DeclarationFaults.{BodyFails}
use Rattle.ob_typing.specs.Verdict.{Right, Wrong}
use Rattle.ob_typing.proofs.CheckedExpressions.{expression_typed, expression_fails, selectors_typed, selectors_fail}
use Rattle.ob_typing.specs.StatementVerdicts.{is_empty, designated, actual, actuals, statement, statements, branches, otherwise, body_checked}

module _ (env : Environment) where
  -- what is right

  pub designator_typed : {name : Tree.Name} {selectors : Selectors} {t : DataType} {d : Designator} →
      IsVariable env name selectors t d → designated env name selectors ≡ Right (record { type = t; variable = d })
  designator_typed (Expressions.of_slot h k) = rw h (rw (selectors_typed env k) refl)

  pub actual_typed : {p : Parameter} {e : Expr} {c : Actual} → IsActual env p e c → actual env p e ≡ Right c
  actual_typed (Typing.value m h same) = rw m (rw (expression_typed env h) (rw same refl))
  actual_typed (Typing.place m b h same) = rw m (rw b (rw (designator_typed h) (rw same refl)))

  pub actuals_typed : {ps : List Parameter} {es : List Expr} {cs : List Actual} → Fits env ps es cs → actuals env ps es ≡ Right cs
  actuals_typed Typing.none = refl
  actuals_typed (Typing.more h k) = rw (actual_typed h) (rw (actuals_typed k) refl)

  not_empty : {s : Stmt} {c : Statement} → IsStatement env s c → is_empty s ≡ false
  not_empty (Typing.assign d h same) = refl
  not_empty (Typing.call m n h) = refl
  not_empty (Typing.if' h) = refl
  not_empty (Typing.while h k) = refl
  not_empty (Typing.repeat h k) = refl

  mutual
    pub statement_typed : {s : Stmt} {c : Statement} → IsStatement env s c → statement env s ≡ Right c
    statement_typed (Typing.assign d h same) = rw (designator_typed d) (rw (expression_typed env h) (rw same refl))
    statement_typed (Typing.call m n h) = rw m (rw (eq-eqb _ _ n) (rw (actuals_typed h) refl))
    statement_typed (Typing.if' h) = rw (branches_typed h) refl
    statement_typed (Typing.while h k) = rw (expression_typed env h) (rw (statements_typed k) refl)
    statement_typed (Typing.repeat h k) = rw (statements_typed h) (rw (expression_typed env k) refl)

    pub statements_typed : {ss : Stmts} {cs : Statements} → AreStatements env ss cs → statements env ss ≡ Right cs
    statements_typed Typing.no_statement = refl
    statements_typed (Typing.empty h) = statements_typed h
    statements_typed (Typing.more h k) = rw (not_empty h) (rw (statement_typed h) (rw (statements_typed k) refl))

    pub branches_typed : {bs : Branches} {o : Otherwise} {cs : Program.Branches} →
        AreBranches env bs o cs → branches env bs (otherwise env o) ≡ Right cs
    branches_typed Typing.no_else = refl
    branches_typed (Typing.otherwise h) = rw (statements_typed h) refl
    branches_typed (Typing.branch h k l) = rw (expression_typed env h) (rw (statements_typed k) (rw (branches_typed l) refl))

  pub body_typed : {body : Option Stmts} {ss : Statements} → IsBody env body ss → body_checked env body ≡ Right ss
  body_typed Typing.none = refl
  body_typed (Typing.some h) = statements_typed h

  -- what is wrong

  pub designator_fails : {name : Tree.Name} {selectors : Selectors} {fault : BrokenRule} →
      DesignatorFails env name selectors fault → designated env name selectors ≡ Wrong fault
  designator_fails (Faults.name h) = rw h refl
  designator_fails (Faults.selectors h s k) = rw h (rw s (rw (selectors_fail env k) refl))

  pub actual_fails : {p : Parameter} {e : Expr} {fault : BrokenRule} → ActualFails env p e fault → actual env p e ≡ Wrong fault
  actual_fails (Faults.value m h) = rw m (rw (expression_fails env h) refl)
  actual_fails (Faults.value_type m h same) = rw m (rw (expression_typed env h) (rw same refl))
  actual_fails (Faults.place m b h) = rw m (rw b (rw (designator_fails h) refl))
  actual_fails (Faults.place_type m b h same) = rw m (rw b (rw (designator_typed h) (rw same refl)))
  actual_fails (Faults.not_bare m b h) = rw m (rw b (rw (expression_fails env h) refl))
  actual_fails (Faults.not_bare_type m b h same) = rw m (rw b (rw (expression_typed env h) (rw same refl)))
  actual_fails (Faults.no_variable m b h same) = rw m (rw b (rw (expression_typed env h) (rw same refl)))

  pub actuals_fail : {ps : List Parameter} {es : List Expr} {fault : BrokenRule} → ActualsFail env ps es fault → actuals env ps es ≡ Wrong fault
  actuals_fail (Faults.first h) = rw (actual_fails h) refl
  actuals_fail (Faults.others h k) = rw (actual_typed h) (rw (actuals_fail k) refl)

  not_empty_either : {s : Stmt} {fault : BrokenRule} → StatementFails env s fault → is_empty s ≡ false
  not_empty_either (Faults.target h) = refl
  not_empty_either (Faults.assigned d h) = refl
  not_empty_either (Faults.assign d h same) = refl
  not_empty_either (Faults.procedure h) = refl
  not_empty_either (Faults.count h n) = refl
  not_empty_either (Faults.actuals h n k) = refl
  not_empty_either (Faults.branches h) = refl
  not_empty_either (Faults.within_condition h) = refl
  not_empty_either (Faults.condition h) = refl
  not_empty_either (Faults.body h k) = refl
  not_empty_either (Faults.repeated h) = refl
  not_empty_either (Faults.within_until h k) = refl
  not_empty_either (Faults.until h k) = refl

  mutual
    pub statement_fails : {s : Stmt} {fault : BrokenRule} → StatementFails env s fault → statement env s ≡ Wrong fault
    statement_fails (Faults.target h) = rw (designator_fails h) refl
    statement_fails (Faults.assigned d h) = rw (designator_typed d) (rw (expression_fails env h) refl)
    statement_fails (Faults.assign d h same) = rw (designator_typed d) (rw (expression_typed env h) (rw same refl))
    statement_fails (Faults.procedure h) = rw h refl
    statement_fails (Faults.count h n) = rw h (rw (ne_eqb _ _ n) refl)
    statement_fails (Faults.actuals h n k) = rw h (rw (eq-eqb _ _ n) (rw (actuals_fail k) refl))
    statement_fails (Faults.branches h) = rw (branches_fail h) refl
    statement_fails (Faults.within_condition h) = rw (expression_fails env h) refl
    statement_fails (Faults.condition h) = rw (expression_typed env h) refl
    statement_fails (Faults.body h k) = rw (expression_typed env h) (rw (statements_fail k) refl)
    statement_fails (Faults.repeated h) = rw (statements_fail h) refl
    statement_fails (Faults.within_until h k) = rw (statements_typed h) (rw (expression_fails env k) refl)
    statement_fails (Faults.until h k) = rw (statements_typed h) (rw (expression_typed env k) refl)

    pub statements_fail : {ss : Stmts} {fault : BrokenRule} → StatementsFail env ss fault → statements env ss ≡ Wrong fault
    statements_fail (Faults.first_statement h) = rw (not_empty_either h) (rw (statement_fails h) refl)
    statements_fail (Faults.behind_empty h) = statements_fail h
    statements_fail (Faults.other_statements h k) = rw (not_empty h) (rw (statement_typed h) (rw (statements_fail k) refl))

    pub branches_fail : {bs : Branches} {o : Otherwise} {fault : BrokenRule} → BranchesFail env bs o fault → branches env bs (otherwise env o) ≡ Wrong fault
    branches_fail (Faults.within_else h) = rw (statements_fail h) refl
    branches_fail (Faults.within_branch_condition h) = rw (expression_fails env h) refl
    branches_fail (Faults.branch_condition h) = rw (expression_typed env h) refl
    branches_fail (Faults.branch_body h k) = rw (expression_typed env h) (rw (statements_fail k) refl)
    branches_fail (Faults.other_branches h k l) = rw (expression_typed env h) (rw (statements_typed k) (rw (branches_fail l) refl))

  pub body_fails : {body : Option Stmts} {fault : BrokenRule} → BodyFails env body fault → body_checked env body ≡ Wrong fault
  body_fails (DeclarationFaults.some h) = statements_fail h
