use Rattle.std.proofs.Common.{◌+◌, arith, sym, ap, ◌∙◌, drop}
use Rattle.std.proofs.lemmas.List.{at_drop_all}
use Rattle.ob_grammar.specs.View.{expr_of, stmt_of, stmts_in}
use Rattle.ob_grammar.specs.View as Trees
use Rattle.ob_grammar.proofs.Exits.{passed_on}
use Rattle.ob_typing.specs.Verdict.{◌>>=◌}
use Rattle.ob_typing.specs.StatementVerdicts.{statements, branches}
use Rattle.ob_scopes.specs.Names.{env_of}
use Rattle.ob_rules.proofs.Steps.{fails_as, fails_on}
use Rattle.ob_scopes.proofs.Lists.{next_left}
use Rattle.ob_rules.proofs.Bodies.{behind_done, branched, done_all, statements_first, statements_next, branch_condition_fails, branch_body_fails, branches_next, if_tree, if_fails, else_fails, if_right, while_tree, body_fails, while_right, repeat_tree, repeated_fails, until_fails, repeat_right}
use Rattle.ob_rules.proofs.Sizes.{size, size_of_all, size_of_else, statement_smaller, body_smaller}
use Rattle.ob_rules.proofs.statements.+statements.Goals as goal

-- what stands within is smaller

pub statements-statement-requires : goal.statements-statement-requires
statements-statement-requires t c =
    let all = c.args.written.now in
    let i = c.loop-next.next-index in
    let smaller = statement_smaller all i c.next-item.result (next_left all i c.next-item.result c.loop-next-test.true c.next-item.is) in
    (omega (arith, smaller, c.decreases), tt)

pub if_branches-statements-requires : goal.if_branches-statements-requires
if_branches-statements-requires t c =
    let all = c.args.written.now in
    let i = c.loop-branch.branch-index in
    let smaller = body_smaller all i c.branch-item.result (next_left all i c.branch-item.result c.loop-branch-test.true c.branch-item.is) in
    let body = ap (λ ss. size_of_all (stmts_in ss)) c.deref.ensures.value in
    (omega (arith, smaller, body, c.decreases), tt)

pub statement-if_branches-requires : goal.statement-if_branches-requires
statement-if_branches-requires t c =
    let whole = ap size (if_tree (env_of c.args.scopes.now) c.args.written.now _ _ _ c.in-If.is _ c.deref.ensures.value) in
    (omega (arith, whole, c.decreases), tt)

pub statement-else_branch-requires : goal.statement-else_branch-requires
statement-else_branch-requires t c =
    let whole = ap size (if_tree (env_of c.args.scopes.now) c.args.written.now _ _ _ c.in-If.is _ c.deref.ensures.value) in
    (omega (arith, whole, c.decreases), tt)

pub statement-statements-requires : goal.statement-statements-requires
statement-statements-requires t c =
    let whole = ap size (while_tree (env_of c.args.scopes.now) c.args.written.now _ _ _ c.in-While.is _ c.deref-in-While.ensures.value) in
    (omega (arith, whole, c.decreases), tt)

pub else_branch-statements-requires : goal.else_branch-statements-requires
else_branch-statements-requires t c =
    let whole = ap (λ o. size_of_else (Trees.otherwise_of o)) c.in-Some.is in
    let body = ap (λ ss. size_of_all (stmts_in ss)) c.deref.ensures.value in
    (omega (arith, whole, body, c.decreases), tt)

-- statements

pub statements-returns-in_err-done-clause-fault : goal.statements-returns-in_err-done-clause-fault
statements-returns-in_err-done-clause-fault t c =
    let all = c.args.written.now in
    let i = c.loop-next.next-index in
    let next = next_left all i c.next-item.result c.loop-next-test.true c.next-item.is in
    passed_on _ _ _ c.from_residual.ensures.1
    (fails_as _ _ _ c.loop-next.invariant (fails_on _ _ _
    (fails_as _ _ _ (statements_first (env_of c.args.scopes.now) all i c.next-item.result next) (c.in_err-done.ensures.fault (stmts_in (drop (i + 1) all))))))

pub statements-loop-next-preserved : goal.statements-loop-next-preserved
statements-loop-next-preserved t c =
    let env = env_of c.args.scopes.now in
    let all = c.args.written.now in
    let i = c.loop-next.next-index in
    let next = next_left all i c.next-item.result c.loop-next-test.true c.next-item.is in
    c.loop-next.invariant
    ∙ statements_next env all i c.next-item.result next c.in_ok-done.done c.in_ok-done.ensures.typed c.loop-next.checked.items
    ∙ ap (λ ss. ◌>>=◌ (statements env (stmts_in (drop (i + 1) all))) (behind_done ss)) (sym c.in_ok-keep.ensures.ok)

pub statements-returns-clause-typed : goal.statements-returns-clause-typed
statements-returns-clause-typed t c =
    let end = at_drop_all stmts_in c.args.written.now c.loop-next.next-index (omega arith) in
    c.loop-next.invariant
    ∙ ap (λ ss. ◌>>=◌ (statements (env_of c.args.scopes.now) ss) (behind_done c.loop-next.checked.items)) end
    ∙ done_all c.loop-next.checked.items

-- the branches of IF

pub if_branches-returns-in_err-condition-clause-fault : goal.if_branches-returns-in_err-condition-clause-fault
if_branches-returns-in_err-condition-clause-fault t c =
    let all = c.args.written.now in
    let i = c.loop-branch.branch-index in
    let next = next_left all i c.branch-item.result c.loop-branch-test.true c.branch-item.is in
    passed_on _ _ _ c.from_residual.ensures.1
    (λ last. fails_as _ _ _ (c.loop-branch.invariant last)
    (branch_condition_fails (env_of c.args.scopes.now) all i c.branch-item.result next last _ c.loop-branch.checked.items c.in_err-condition.ensures.fault))

pub if_branches-returns-in_err-body-clause-fault : goal.if_branches-returns-in_err-body-clause-fault
if_branches-returns-in_err-body-clause-fault t c =
    let env = env_of c.args.scopes.now in
    let all = c.args.written.now in
    let i = c.loop-branch.branch-index in
    let next = next_left all i c.branch-item.result c.loop-branch-test.true c.branch-item.is in
    let body = ap (λ ss. statements env (stmts_in ss)) (sym c.deref.ensures.value) in
    passed_on _ _ _ c.from_residual-in_err-body.ensures.1
    (λ last. fails_as _ _ _ (c.loop-branch.invariant last)
    (branch_body_fails env all i c.branch-item.result next last _ c.loop-branch.checked.items c.in_ok-condition.condition c.in_ok-condition.ensures.typed
    (fails_as _ _ _ body c.in_err-body.ensures.fault)))

pub if_branches-loop-branch-preserved : goal.if_branches-loop-branch-preserved
if_branches-loop-branch-preserved t c =
    let env = env_of c.args.scopes.now in
    let all = c.args.written.now in
    let i = c.loop-branch.branch-index in
    let next = next_left all i c.branch-item.result c.loop-branch-test.true c.branch-item.is in
    let body = ap (λ ss. statements env (stmts_in ss)) (sym c.deref.ensures.value) in
    λ last. c.loop-branch.invariant last
    ∙ branches_next env all i c.branch-item.result next last (record { condition = c.in_ok-condition.condition; body = c.in_ok-body.body })
    c.in_ok-condition.ensures.typed (body ∙ c.in_ok-body.ensures.typed) c.loop-branch.checked.items
    ∙ ap (λ bs. ◌>>=◌ (branches env (Trees.branches_in (drop (i + 1) all)) last) (branched env bs)) (sym c.in_ok-push.ensures.items)

pub if_branches-returns-clause-typed : goal.if_branches-returns-clause-typed
if_branches-returns-clause-typed t c =
    let env = env_of c.args.scopes.now in
    let end = at_drop_all Trees.branches_in c.args.written.now c.loop-branch.branch-index (omega arith) in
    λ last. c.loop-branch.invariant last
    ∙ ap (λ bs. ◌>>=◌ (branches env bs last) (branched env c.loop-branch.checked.items)) end

-- IF, WHILE and REPEAT in front of others

pub statement-returns-in_err-branches-in-If-clause-fault : goal.statement-returns-in_err-branches-in-If-clause-fault
statement-returns-in_err-branches-in-If-clause-fault t c =
    passed_on _ _ _ c.from_residual-in_err-branches-in-If.ensures.1
    (if_fails (env_of c.args.scopes.now) c.args.written.now _ _ _ c.in-If.is _ c.deref.ensures.value _ c.in_err-branches-in-If.ensures.fault)

pub statement-returns-in_err-otherwise-in-If-clause-fault : goal.statement-returns-in_err-otherwise-in-If-clause-fault
statement-returns-in_err-otherwise-in-If-clause-fault t c =
    passed_on _ _ _ c.from_residual-in_err-otherwise-in-If.ensures.1
    (else_fails (env_of c.args.scopes.now) c.args.written.now _ _ _ c.in-If.is _ c.deref.ensures.value _ c.in_ok-branches-in-If.ensures.typed _ c.in_err-otherwise-in-If.ensures.fault)

pub statement-returns-in_ok-otherwise-in-If-clause-typed : goal.statement-returns-in_ok-otherwise-in-If-clause-typed
statement-returns-in_ok-otherwise-in-If-clause-typed t c =
    if_right (env_of c.args.scopes.now) c.args.written.now _ _ _ c.in-If.is _ c.deref.ensures.value
    c.in_ok-branches-in-If.branches c.in_ok-otherwise-in-If.otherwise c.in_ok-branches-in-If.ensures.typed c.in_ok-otherwise-in-If.ensures.typed

pub statement-returns-in_err-body-in-While-clause-fault : goal.statement-returns-in_err-body-in-While-clause-fault
statement-returns-in_err-body-in-While-clause-fault t c =
    passed_on _ _ _ c.from_residual-in_err-body-in-While.ensures.1
    (body_fails (env_of c.args.scopes.now) c.args.written.now _ _ _ c.in-While.is _ c.deref-in-While.ensures.value _ c.in_ok-condition-in-While.ensures.typed _ c.in_err-body-in-While.ensures.fault)

pub statement-returns-in_ok-body-in-While-clause-typed : goal.statement-returns-in_ok-body-in-While-clause-typed
statement-returns-in_ok-body-in-While-clause-typed t c =
    while_right (env_of c.args.scopes.now) c.args.written.now _ _ _ c.in-While.is _ c.deref-in-While.ensures.value
    c.in_ok-condition-in-While.condition c.in_ok-condition-in-While.ensures.typed c.in_ok-body-in-While.body c.in_ok-body-in-While.ensures.typed

pub statement-statements-requires-in-Repeat : goal.statement-statements-requires-in-Repeat
statement-statements-requires-in-Repeat t c =
    let whole = ap size (repeat_tree (env_of c.args.scopes.now) c.args.written.now _ _ _ c.in-Repeat.is _ c.deref-in-Repeat.ensures.value) in
    (omega (arith, whole, c.decreases), tt)

pub statement-returns-in_err-body-in-Repeat-clause-fault : goal.statement-returns-in_err-body-in-Repeat-clause-fault
statement-returns-in_err-body-in-Repeat-clause-fault t c =
    passed_on _ _ _ c.from_residual-in_err-body-in-Repeat.ensures.1
    (repeated_fails (env_of c.args.scopes.now) c.args.written.now _ _ _ c.in-Repeat.is _ c.deref-in-Repeat.ensures.value _ c.in_err-body-in-Repeat.ensures.fault)

pub statement-returns-in_err-condition-in-Repeat-clause-fault : goal.statement-returns-in_err-condition-in-Repeat-clause-fault
statement-returns-in_err-condition-in-Repeat-clause-fault t c =
    passed_on _ _ _ c.from_residual-in_err-condition-in-Repeat.ensures.1
    (until_fails (env_of c.args.scopes.now) c.args.written.now _ _ _ c.in-Repeat.is _ c.deref-in-Repeat.ensures.value c.in_ok-body-in-Repeat.body c.in_ok-body-in-Repeat.ensures.typed _ c.in_err-condition-in-Repeat.ensures.fault)

pub statement-returns-in_ok-condition-in-Repeat-clause-typed : goal.statement-returns-in_ok-condition-in-Repeat-clause-typed
statement-returns-in_ok-condition-in-Repeat-clause-typed t c =
    repeat_right (env_of c.args.scopes.now) c.args.written.now _ _ _ c.in-Repeat.is _ c.deref-in-Repeat.ensures.value
    c.in_ok-body-in-Repeat.body c.in_ok-body-in-Repeat.ensures.typed c.in_ok-condition-in-Repeat.condition c.in_ok-condition-in-Repeat.ensures.typed
