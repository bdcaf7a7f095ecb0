use Rattle.std.proofs.Common.{ap, sym, ◌∙◌, arith}
use Rattle.std.proofs.lemmas.Result.{on_ok_weaker}
use Rattle.ob_typing.specs.Program as Programs
use Rattle.ob_checked.specs.View.{expression_of, statement_of, statements_in, branches_in, otherwise_of}
use Rattle.ob_checked.proofs.Rows.{statement_of-if, statement_of-while, statement_of-repeat}
use Rattle.ob_code.specs.Entering.{entry_in}
use Rattle.ob_code.specs.Scoped.{globals_in, own_in}
use Rattle.ob_code.proofs.Falls.{weight, weight_of_all, weight_of_branches, weight_at}
use Rattle.ob_code.proofs.Constructs.{with_statement, with_branches, statements_go, while_put, repeat_put, over_placed, branch_put, over_within, branches_put}
use Rattle.ob_code.proofs.ConstructsWithin.{statements_next, while_condition, while_body, while_last, repeat_body, repeat_condition, repeat_last, branch_condition, branch_body, branch_over, branches_first, branches_rest}
use Rattle.ob_code.proofs.Within.{within}
use Rattle.ob_code.proofs.statements.+statements.Goals as goal

pub put_branch-returns-clause-code : goal.put_branch-returns-clause-code
put_branch-returns-clause-code t c =
    branch_put (globals_in c.args.scopes.now) (own_in c.args.scopes.now) (entry_in c.args.entries.now)
    c.args.code.now c.put_expression.new.code c.push.new.code c.put_statements.new.code c.put_over.new.code c.set.new.self c.args.branch.now c.as_slice.result.now c.args.more c.end-place.result c.end-end.result c.end-target.result
    c.as_slice.ensures.value c.in_ok-put_expression.ensures c.end-place.ensures c.in_ok-push.ensures c.in_ok-put_statements.ensures c.end-end.ensures
    c.in_ok-put_over.ensures c.end-target.ensures c.set.ensures

pub put_branch-returns-clause-place : goal.put_branch-returns-clause-place
put_branch-returns-clause-place t c =
    over_placed (globals_in c.args.scopes.now) (own_in c.args.scopes.now) (entry_in c.args.entries.now)
    c.args.code.now c.put_expression.new.code c.push.new.code c.put_statements.new.code c.put_over.new.code c.set.new.self c.args.branch.now c.as_slice.result.now c.args.more c.end-place.result c.end-end.result c.end-target.result
    c.as_slice.ensures.value c.in_ok-put_expression.ensures c.end-place.ensures c.in_ok-push.ensures c.in_ok-put_statements.ensures c.end-end.ensures

pub put_branches-set-requires : goal.put_branches-set-requires
put_branches-set-requires t c =
    over_within (globals_in c.args.scopes.now) (own_in c.args.scopes.now) (entry_in c.args.entries.now)
    c.args.code.now c.put_branch.new.code c.put_branches.new.code c.in-Some.first.now (branches_in c.in-Some.rest.now (otherwise_of c.args.otherwise.now)) c.follows-more.result
    c.follows-more.ensures c.in_ok-place.ensures.code c.in_ok-put_branches.ensures c.if-not-more.false c.in_ok-place.place c.end-target.result c.in_ok-place.ensures.place

pub put_branches-returns : goal.put_branches-returns
put_branches-returns t c =
    let last = otherwise_of c.args.otherwise.now in
    branches_put (globals_in c.args.scopes.now) (own_in c.args.scopes.now) (entry_in c.args.entries.now)
    c.args.code.now c.put_branch.new.code c.put_branches.new.code c.in-Some.first.now (branches_in c.in-Some.rest.now last) c.follows-more.result
    c.follows-more.ensures c.in_ok-place.ensures.code c.in_ok-put_branches.ensures c.if-not-more.false c.in_ok-place.place c.end-target.result c.in_ok-place.ensures.place
    c.set.new.self c.end-target.ensures c.set.ensures
    ∙ ap (λ bs. with_branches (globals_in c.args.scopes.now) (own_in c.args.scopes.now) (entry_in c.args.entries.now) c.args.code.now (branches_in bs last)) (sym c.in-Some.ensures.cases.0)

pub put_repeat-returns : goal.put_repeat-returns
put_repeat-returns t c =
    on_ok_weaker c.push-2.result
    (λ last. repeat_put (globals_in c.args.scopes.now) (own_in c.args.scopes.now) (entry_in c.args.entries.now)
    c.args.code.now c.push.new.code c.put_statements.new.code c.put_expression.new.code c.push-2.new.code c.args.condition.now c.args.body.now c.end-start.result
    c.end-start.ensures c.in_ok-push.ensures c.in_ok-put_statements.ensures c.in_ok-put_expression.ensures last)
    c.push-2.ensures

pub put_while-returns : goal.put_while-returns
put_while-returns t c =
    while_put (globals_in c.args.scopes.now) (own_in c.args.scopes.now) (entry_in c.args.entries.now)
    c.args.code.now c.put_expression.new.code c.push.new.code c.push-2.new.code c.put_statements.new.code c.push-3.new.code c.set.new.self c.args.condition.now c.args.body.now
    c.end-start.result c.end-place.result c.end-target.result
    c.end-start.ensures c.in_ok-put_expression.ensures c.end-place.ensures c.in_ok-push.ensures c.in_ok-push-2.ensures c.in_ok-put_statements.ensures c.in_ok-push-3.ensures
    c.end-target.ensures c.set.ensures

pub put_statement-put_branches-requires : goal.put_statement-put_branches-requires
put_statement-put_branches-requires t c =
    let whole = ap weight (ap statement_of c.in-If.is ∙ statement_of-if c.in-If.branches c.in-If.otherwise) in
    let parts = ap (λ bs. weight_of_branches (branches_in bs (otherwise_of c.in-If.otherwise))) c.as_slice-in-If.ensures.value in
    let is = ap statement_of c.in-If.is ∙ statement_of-if c.in-If.branches c.in-If.otherwise in
    let same = ap (λ bs. with_branches (globals_in c.args.scopes.now) (own_in c.args.scopes.now) (entry_in c.args.entries.now) c.args.code.now (branches_in bs (otherwise_of c.in-If.otherwise))) c.as_slice-in-If.ensures.value
    ∙ ap (with_statement (globals_in c.args.scopes.now) (own_in c.args.scopes.now) (entry_in c.args.entries.now) c.args.code.now) (sym is) in
    (omega (arith, whole, parts), within _ _ same c.requires)

pub put_statement-put_while-requires : goal.put_statement-put_while-requires
put_statement-put_while-requires t c =
    let whole = ap weight (ap statement_of c.in-While.is ∙ statement_of-while c.in-While.condition c.in-While.body) in
    let parts = ap (λ ss. weight_of_all (statements_in ss)) c.as_slice-in-While.ensures.value in
    let is = ap statement_of c.in-While.is ∙ statement_of-while c.in-While.condition c.in-While.body in
    let with = with_statement (globals_in c.args.scopes.now) (own_in c.args.scopes.now) (entry_in c.args.entries.now) c.args.code.now in
    let same = ap (λ ss. with (Programs.While (expression_of c.in-While.condition) (statements_in ss))) c.as_slice-in-While.ensures.value ∙ ap with (sym is) in
    (omega (arith, whole, parts), within _ _ same c.requires)

pub put_statement-put_repeat-requires : goal.put_statement-put_repeat-requires
put_statement-put_repeat-requires t c =
    let whole = ap weight (ap statement_of c.in-Repeat.is ∙ statement_of-repeat c.in-Repeat.body c.in-Repeat.condition) in
    let parts = ap (λ ss. weight_of_all (statements_in ss)) c.as_slice-in-Repeat.ensures.value in
    let is = ap statement_of c.in-Repeat.is ∙ statement_of-repeat c.in-Repeat.body c.in-Repeat.condition in
    let with = with_statement (globals_in c.args.scopes.now) (own_in c.args.scopes.now) (entry_in c.args.entries.now) c.args.code.now in
    let same = ap (λ ss. with (Programs.Repeat (statements_in ss) (expression_of c.in-Repeat.condition))) c.as_slice-in-Repeat.ensures.value ∙ ap with (sym is) in
    (omega (arith, whole, parts), within _ _ same c.requires)

pub put_statement-returns-in-Assign : goal.put_statement-returns-in-Assign
put_statement-returns-in-Assign t c =
    on_ok_weaker c.put_assignment.result
    (λ h. h ∙ ap (λ s. with_statement (globals_in c.args.scopes.now) (own_in c.args.scopes.now) (entry_in c.args.entries.now) c.args.code.now (statement_of s)) (sym c.in-Assign.is))
    c.put_assignment.ensures

pub put_statement-returns-in-If : goal.put_statement-returns-in-If
put_statement-returns-in-If t c =
    let with = with_statement (globals_in c.args.scopes.now) (own_in c.args.scopes.now) (entry_in c.args.entries.now) c.args.code.now in
    on_ok_weaker c.put_branches.result
    (λ h. h
    ∙ ap (λ bs. with_branches (globals_in c.args.scopes.now) (own_in c.args.scopes.now) (entry_in c.args.entries.now) c.args.code.now (branches_in bs (otherwise_of c.in-If.otherwise))) c.as_slice-in-If.ensures.value
    ∙ ap with (sym (ap statement_of c.in-If.is ∙ statement_of-if c.in-If.branches c.in-If.otherwise)))
    c.put_branches.ensures

pub put_statement-returns-in-While : goal.put_statement-returns-in-While
put_statement-returns-in-While t c =
    let with = with_statement (globals_in c.args.scopes.now) (own_in c.args.scopes.now) (entry_in c.args.entries.now) c.args.code.now in
    on_ok_weaker c.put_while.result
    (λ h. h
    ∙ ap (λ ss. with (Programs.While (expression_of c.in-While.condition) (statements_in ss))) c.as_slice-in-While.ensures.value
    ∙ ap with (sym (ap statement_of c.in-While.is ∙ statement_of-while c.in-While.condition c.in-While.body)))
    c.put_while.ensures

pub put_statement-returns-in-Repeat : goal.put_statement-returns-in-Repeat
put_statement-returns-in-Repeat t c =
    let with = with_statement (globals_in c.args.scopes.now) (own_in c.args.scopes.now) (entry_in c.args.entries.now) c.args.code.now in
    on_ok_weaker c.put_repeat.result
    (λ h. h
    ∙ ap (λ ss. with (Programs.Repeat (statements_in ss) (expression_of c.in-Repeat.condition))) c.as_slice-in-Repeat.ensures.value
    ∙ ap with (sym (ap statement_of c.in-Repeat.is ∙ statement_of-repeat c.in-Repeat.body c.in-Repeat.condition)))
    c.put_repeat.ensures

pub put_statements-put_statement-requires : goal.put_statements-put_statement-requires
put_statements-put_statement-requires t c =
    let less = weight_at c.args.statements.now c.loop-statement.statement-index c.statement-item.result c.loop-statement-test.true in
    let same = ap (λ s. weight (statement_of s)) c.statement-item.is in (
      omega (arith, less, same),
      statements_next (globals_in c.args.scopes.now) (own_in c.args.scopes.now) (entry_in c.args.entries.now) c.loop-statement.code _ c.args.statements.now c.loop-statement.statement-index c.statement-item.result
          c.loop-statement-test.true c.statement-item.is c.loop-statement.invariant c.requires,
    )

pub put_statements-loop-statement-preserved : goal.put_statements-loop-statement-preserved
put_statements-loop-statement-preserved t c =
    statements_go (globals_in c.args.scopes.now) (own_in c.args.scopes.now) (entry_in c.args.entries.now) c.loop-statement.code c.put_statement.new.code _ c.args.statements.now c.loop-statement.statement-index c.statement-item.result
    c.loop-statement-test.true c.statement-item.is c.in_ok-put_statement.ensures c.loop-statement.invariant

-- ---- within the limits

pub put_while-put_expression-requires : goal.put_while-put_expression-requires
put_while-put_expression-requires t c = while_condition (globals_in c.args.scopes.now) (own_in c.args.scopes.now) (entry_in c.args.entries.now) c.args.code.now c.args.condition.now c.args.body.now c.requires

pub put_while-put_statements-requires : goal.put_while-put_statements-requires
put_while-put_statements-requires t c = (
  omega arith,
  while_body (globals_in c.args.scopes.now) (own_in c.args.scopes.now) (entry_in c.args.entries.now) c.args.code.now c.args.condition.now c.args.body.now c.requires
      c.put_expression.new.code c.push.new.code c.push-2.new.code c.in_ok-put_expression.ensures c.in_ok-push.ensures c.in_ok-push-2.ensures,
)

pub put_while-push-requires-3 : goal.put_while-push-requires-3
put_while-push-requires-3 t c =
    while_last (globals_in c.args.scopes.now) (own_in c.args.scopes.now) (entry_in c.args.entries.now) c.args.code.now c.args.condition.now c.args.body.now c.requires
    c.put_expression.new.code c.push.new.code c.push-2.new.code c.put_statements.new.code c.in_ok-put_expression.ensures c.in_ok-push.ensures c.in_ok-push-2.ensures c.in_ok-put_statements.ensures

pub put_repeat-put_statements-requires : goal.put_repeat-put_statements-requires
put_repeat-put_statements-requires t c = (
  omega arith,
  repeat_body (globals_in c.args.scopes.now) (own_in c.args.scopes.now) (entry_in c.args.entries.now) c.args.code.now c.args.condition.now c.args.body.now c.requires c.push.new.code c.in_ok-push.ensures,
)

pub put_repeat-put_expression-requires : goal.put_repeat-put_expression-requires
put_repeat-put_expression-requires t c =
    repeat_condition (globals_in c.args.scopes.now) (own_in c.args.scopes.now) (entry_in c.args.entries.now) c.args.code.now c.args.condition.now c.args.body.now c.requires c.push.new.code c.put_statements.new.code c.in_ok-push.ensures c.in_ok-put_statements.ensures

pub put_repeat-push-requires-2 : goal.put_repeat-push-requires-2
put_repeat-push-requires-2 t c =
    repeat_last (globals_in c.args.scopes.now) (own_in c.args.scopes.now) (entry_in c.args.entries.now) c.args.code.now c.args.condition.now c.args.body.now c.requires
    c.push.new.code c.put_statements.new.code c.put_expression.new.code c.in_ok-push.ensures c.in_ok-put_statements.ensures c.in_ok-put_expression.ensures

pub put_branch-put_expression-requires : goal.put_branch-put_expression-requires
put_branch-put_expression-requires t c = branch_condition (globals_in c.args.scopes.now) (own_in c.args.scopes.now) (entry_in c.args.entries.now) c.args.code.now c.args.branch.now c.args.more c.requires

pub put_branch-put_statements-requires : goal.put_branch-put_statements-requires
put_branch-put_statements-requires t c =
    let same = ap (λ ss. weight_of_all (statements_in ss)) c.as_slice.ensures.value in (
      omega (arith, same),
      branch_body (globals_in c.args.scopes.now) (own_in c.args.scopes.now) (entry_in c.args.entries.now) c.args.code.now c.args.branch.now c.args.more c.requires
          c.put_expression.new.code c.push.new.code c.as_slice.result.now c.in_ok-put_expression.ensures c.in_ok-push.ensures c.as_slice.ensures.value,
    )

pub put_branch-put_over-requires : goal.put_branch-put_over-requires
put_branch-put_over-requires t c =
    branch_over (globals_in c.args.scopes.now) (own_in c.args.scopes.now) (entry_in c.args.entries.now) c.args.code.now c.args.branch.now c.args.more c.requires
    c.put_expression.new.code c.push.new.code c.put_statements.new.code c.as_slice.result.now
    c.in_ok-put_expression.ensures c.in_ok-push.ensures c.as_slice.ensures.value c.in_ok-put_statements.ensures

pub put_branches-put_branch-requires : goal.put_branches-put_branch-requires
put_branches-put_branch-requires t c =
    let last = otherwise_of c.args.otherwise.now in
    let is = ap (λ bs. branches_in bs last) c.in-Some.ensures.cases.0 in
    let whole = ap weight_of_branches is in
    let w = within _ _ (ap (with_branches (globals_in c.args.scopes.now) (own_in c.args.scopes.now) (entry_in c.args.entries.now) c.args.code.now) (sym is)) c.requires in (
      omega (arith, whole),
      branches_first (globals_in c.args.scopes.now) (own_in c.args.scopes.now) (entry_in c.args.entries.now) c.args.code.now c.in-Some.first.now (branches_in c.in-Some.rest.now (otherwise_of c.args.otherwise.now)) c.follows-more.result c.follows-more.ensures w,
    )

pub put_branches-put_branches-requires : goal.put_branches-put_branches-requires
put_branches-put_branches-requires t c =
    let last = otherwise_of c.args.otherwise.now in
    let is = ap (λ bs. branches_in bs last) c.in-Some.ensures.cases.0 in
    let whole = ap weight_of_branches is in
    let w = within _ _ (ap (with_branches (globals_in c.args.scopes.now) (own_in c.args.scopes.now) (entry_in c.args.entries.now) c.args.code.now) (sym is)) c.requires in (
      omega (arith, whole),
      branches_rest (globals_in c.args.scopes.now) (own_in c.args.scopes.now) (entry_in c.args.entries.now) c.args.code.now c.in-Some.first.now (branches_in c.in-Some.rest.now (otherwise_of c.args.otherwise.now)) c.follows-more.result c.follows-more.ensures w
          c.put_branch.new.code c.in_ok-place.ensures.code,
    )
