use Rattle.std.proofs.Common.{None, Some, subst}
use Rattle.ob_checked.specs.View.{statements_in}
use Rattle.ob_carry.specs.ReadOnly.{AllSpareModule}
use Rattle.ob_carry.proofs.TellingValues.{told_no, told_on, told_end, told_same, told_not, told_alone, told_both, statement_joins, no_statement_left, branch_joins, no_branch_left, if_spares, while_spares, repeat_spares}
use Rattle.ob_carry.proofs.sparing_calls.+statements.Goals as goal

pub branches_spare-returns-then-not-spares : goal.branches_spare-returns-then-not-spares
branches_spare-returns-then-not-spares t c = told_no _ _ _ _ _ _ c.in_ok-spares.spares c.loop-branch.invariant c.in_ok-spares.ensures

pub branches_spare-loop-branch-preserved : goal.branches_spare-loop-branch-preserved
branches_spare-loop-branch-preserved t c =
    told_on _ _ _ _ _ _ c.in_ok-spares.spares c.loop-branch.invariant c.in_ok-spares.ensures _ c.if-not-spares.false
    (λ quiet first rest.
    branch_joins quiet c.args.branches.now c.loop-branch.branch-index c.branch-item.result c.as_slice.result.now c.loop-branch-test.true c.branch-item.is c.as_slice.ensures.value first rest)

pub branches_spare-returns : goal.branches_spare-returns
branches_spare-returns t c =
    told_end _ _ _ _ c.loop-branch.invariant (λ quiet. no_branch_left quiet c.args.branches.now c.loop-branch.branch-index c.loop-branch-test.false)

pub statement_spares-returns-then-not-spares : goal.statement_spares-returns-then-not-spares
statement_spares-returns-then-not-spares t c = told_not _ _ _ _ c.in_ok-spares-in-If.spares c.in_ok-spares-in-If.ensures

pub statement_spares-returns-in-Some : goal.statement_spares-returns-in-Some
statement_spares-returns-in-Some t c =
    told_both _ _ _ _ c.in_ok-spares-in-If.spares c.in_ok-spares-in-If.ensures _ _ c.statements_spare.result c.if-not-spares.false
    (λ quiet branches body.
    if_spares quiet c.args.statement.now c.in-If.branches c.in-If.otherwise (Some c.in-Some.body) c.as_slice-in-If.result.now c.in-If.is c.as_slice-in-If.ensures.value c.in-Some.is branches
    (subst (λ ss. AllSpareModule quiet (statements_in ss)) c.as_slice-in-Some.ensures.value body))
    c.statements_spare.ensures

pub statement_spares-returns-in-None : goal.statement_spares-returns-in-None
statement_spares-returns-in-None t c =
    told_alone _ _ _ _ c.in_ok-spares-in-If.spares c.in_ok-spares-in-If.ensures c.if-not-spares.false
    (λ quiet branches. if_spares quiet c.args.statement.now c.in-If.branches c.in-If.otherwise None c.as_slice-in-If.result.now c.in-If.is c.as_slice-in-If.ensures.value c.in-None.is branches tt)

pub statement_spares-returns-in-While : goal.statement_spares-returns-in-While
statement_spares-returns-in-While t c =
    told_same _ _ _ _ c.statements_spare-in-While.result
    (λ quiet body. while_spares quiet c.args.statement.now c.in-While.condition c.in-While.body c.as_slice-in-While.result.now c.in-While.is c.as_slice-in-While.ensures.value body)
    c.statements_spare-in-While.ensures

pub statement_spares-returns-in-Repeat : goal.statement_spares-returns-in-Repeat
statement_spares-returns-in-Repeat t c =
    told_same _ _ _ _ c.statements_spare-in-Repeat.result
    (λ quiet body. repeat_spares quiet c.args.statement.now c.in-Repeat.condition c.in-Repeat.body c.as_slice-in-Repeat.result.now c.in-Repeat.is c.as_slice-in-Repeat.ensures.value body)
    c.statements_spare-in-Repeat.ensures

pub statements_spare-loop-statement-preserved : goal.statements_spare-loop-statement-preserved
statements_spare-loop-statement-preserved t c =
    told_on _ _ _ _ _ _ c.in_ok-spares.spares c.loop-statement.invariant c.in_ok-spares.ensures _ c.if-not-spares.false
    (λ quiet first rest. statement_joins quiet c.args.statements.now c.loop-statement.statement-index c.statement-item.result c.loop-statement-test.true c.statement-item.is first rest)

pub statements_spare-returns-then-not-spares : goal.statements_spare-returns-then-not-spares
statements_spare-returns-then-not-spares t c = told_no _ _ _ _ _ _ c.in_ok-spares.spares c.loop-statement.invariant c.in_ok-spares.ensures

pub statements_spare-returns : goal.statements_spare-returns
statements_spare-returns t c =
    told_end _ _ _ _ c.loop-statement.invariant (λ quiet. no_statement_left quiet c.args.statements.now c.loop-statement.statement-index c.loop-statement-test.false)
