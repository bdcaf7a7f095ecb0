use Rattle.std.proofs.Common.{◌-◌, ◌*◌, ◌<◌, map, ap, sym, ◌∙◌, arith}
use Rattle.std.proofs.lemmas.Result.{err_from_is_err_and}
use Rattle.ob_checked.specs.View.{expression_of, statement_of, statements_in, branches_in, otherwise_of, program_of, procedure_of, table_of}
use Rattle.ob_meaning.specs.ByPositionStatements as Statements
use Rattle.ob_checked.specs.Traps.{trap_number}
use Rattle.ob_store.specs.View.{store_in, activation_in, variables_in}
use Rattle.ob_mean.specs.Running.{calls_of}
use Rattle.ob_mean.proofs.CallsMade.{comes_as, entered_behind, stops_call, procedure_here, call_made, some_behind}
use Rattle.ob_checked.proofs.Rows.{statement_of-if, statement_of-while, statement_of-repeat}
use Rattle.ob_mean.proofs.Runs.{branch_traps, branch_taken, branches_end, loop_goes, loop_ends, rounds_again, rounds_end}
use Rattle.ob_mean.proofs.Sizes.{size, size_of_all, size_of_branches, turn_of, size_at, branch_at, last_at, body_at, within_less}
use Rattle.ob_mean.proofs.statements.+running.Goals as goal

pub call-run-requires : goal.call-run-requires
call-run-requires t c =
    let program = c.args.context.program.now in
    let p = c.in-Some.procedure.now in
    let here = procedure_here program c.deref.result.now c.args.number p c.deref.ensures.value c.in-Some.ensures.lookup.3.0 c.in-Some.ensures.lookup.1 in
    let small = body_at (program_of program).procedures c.args.number (procedure_of (table_of program.types) p) here in
    let body = ap (λ ss. size_of_all (statements_in ss)) c.as_slice.ensures.value in
    let some : 0 < c.args.context.more = omega arith in
    let b = 2 * size_of_all (statements_in c.as_slice.result.now) in
    let within : b < turn_of (program_of program) = omega (arith, small, body) in
    let less = within_less c.args.context.more (turn_of (program_of program)) b some within in
    (omega (arith, less), tt)

pub call-returns-in_err-left-clause-outcome : goal.call-returns-in_err-left-clause-outcome
call-returns-in_err-left-clause-outcome t c =
    let q = err_from_is_err_and c.from_residual-in_err-left.result c.from_residual-in_err-left.ensures.1 in
    rw (q.1, q.2)
    (stops_call _ _ c.in_err-left.field-0.0 (store_in c.run.new.store) (store_in c.run.new.store)
    (call_made c.args.context.program.now c.deref.result.now c.args.number c.in-Some.procedure.now c.deref.ensures.value c.in-Some.ensures.lookup.3.0 c.in-Some.ensures.lookup.1
    c.args.context.more c.args.turns (activation_in c.args.handed) (store_in c.args.store.now) (store_in c.enter.new.self) (activation_in c.in_ok-activation.activation) c.as_slice.result.now c.as_slice-variables.result.now
    (omega arith) (omega arith) c.as_slice.ensures.value c.as_slice-variables.ensures.value c.in_ok-activation.ensures.activation (entered_behind _ _ _ (activation_in c.in_ok-activation.activation) c.in_ok-enter.ensures.entered c.begun_activation.ensures.kept))
    c.in_err-left.ensures.outcome)

pub call-returns-clause-outcome : goal.call-returns-clause-outcome
call-returns-clause-outcome t c =
    call_made c.args.context.program.now c.deref.result.now c.args.number c.in-Some.procedure.now c.deref.ensures.value c.in-Some.ensures.lookup.3.0 c.in-Some.ensures.lookup.1
    c.args.context.more c.args.turns (activation_in c.args.handed) (store_in c.args.store.now) (store_in c.enter.new.self) (activation_in c.in_ok-activation.activation) c.as_slice.result.now c.as_slice-variables.result.now
    (omega arith) (omega arith) c.as_slice.ensures.value c.as_slice-variables.ensures.value c.in_ok-activation.ensures.activation (entered_behind _ _ _ (activation_in c.in_ok-activation.activation) c.in_ok-enter.ensures.entered c.begun_activation.ensures.kept)
    ∙ ap Statements.left c.in_ok-left.ensures.outcome
    ∙ ap (Statements.Done c.in_ok-left.left)
    (sym (c.end_activation.ensures.left
    (some_behind (program_of c.args.context.program.now) (c.args.context.more - 1) (c.args.turns - 1) c.in_ok-left.left (statements_in c.as_slice.result.now)
    (variables_in c.args.store.now.variables.items) (activation_in c.in_ok-activation.activation) (map activation_in c.args.store.now.others.items)
    (store_in c.enter.new.self) (store_in c.run.new.store) (entered_behind _ _ _ (activation_in c.in_ok-activation.activation) c.in_ok-enter.ensures.entered c.begun_activation.ensures.kept) c.in_ok-left.ensures.outcome)))

pub choose-returns-in_err-condition-clause-outcome : goal.choose-returns-in_err-condition-clause-outcome
choose-returns-in_err-condition-clause-outcome t c =
    let q = err_from_is_err_and c.from_residual.result c.from_residual.ensures.1 in
    rw (q.1, q.2)
    (branch_traps (calls_of c.args.context) c.args.branches.now (otherwise_of c.args.otherwise.now) c.loop-branch.branch-index c.args.turns (trap_number c.in_err-condition.field-0.0)
    c.branch-item.result (store_in c.loop-branch.store) _ c.loop-branch-test.true c.branch-item.is c.in_err-condition.ensures c.loop-branch.invariant.0)

pub choose-run-requires : goal.choose-run-requires
choose-run-requires t c =
    let less = branch_at c.args.branches.now (otherwise_of c.args.otherwise.now) c.loop-branch.branch-index c.branch-item.result c.loop-branch-test.true in
    let same = ap (λ b. size_of_all (statements_in b.body.items)) c.branch-item.is in
    let body = ap (λ ss. size_of_all (statements_in ss)) c.as_slice.ensures.value in
    (omega (arith, less, same, body), tt)

pub choose-returns-then-truth_of-clause-outcome : goal.choose-returns-then-truth_of-clause-outcome
choose-returns-then-truth_of-clause-outcome t c =
    let calls = calls_of c.args.context in
    let store = store_in c.loop-branch.store in
    comes_as _ _ c.run.result (store_in c.run.new.store)
    (branch_taken calls c.args.branches.now (otherwise_of c.args.otherwise.now) c.loop-branch.branch-index c.args.turns c.branch-item.result store
    c.in_ok-condition.condition _ c.loop-branch-test.true c.branch-item.is c.in_ok-condition.ensures (sym c.truth_of.ensures ∙ c.if-truth_of.true) c.loop-branch.invariant.0
    ∙ ap (λ ss. Statements.meaning_of_all calls (statements_in ss) c.args.turns store) (sym c.as_slice.ensures.value))
    c.run.ensures.outcome

pub choose-run-requires-in-Some : goal.choose-run-requires-in-Some
choose-run-requires-in-Some t c =
    let last = last_at c.args.branches.now (otherwise_of c.args.otherwise.now) in
    let here = ap (λ o. size_of_branches (otherwise_of o)) c.in-Some.is in
    let body = ap (λ ss. size_of_all (statements_in ss)) c.as_slice-in-Some.ensures.value in
    (omega (arith, last, here, body), tt)

pub choose-returns-in-Some-clause-outcome : goal.choose-returns-in-Some-clause-outcome
choose-returns-in-Some-clause-outcome t c =
    let calls = calls_of c.args.context in
    let store = store_in c.loop-branch.store in
    comes_as _ _ c.run-in-Some.result (store_in c.run-in-Some.new.store)
    (branches_end calls c.args.branches.now (otherwise_of c.args.otherwise.now) c.loop-branch.branch-index c.args.turns store _ c.loop-branch-test.false c.loop-branch.invariant.0
    ∙ ap (λ o. Statements.meaning_of_branches calls (otherwise_of o) c.args.turns store) c.in-Some.is
    ∙ ap (λ ss. Statements.meaning_of_all calls (statements_in ss) c.args.turns store) (sym c.as_slice-in-Some.ensures.value))
    c.run-in-Some.ensures.outcome

pub choose-returns-in-None-clause-outcome : goal.choose-returns-in-None-clause-outcome
choose-returns-in-None-clause-outcome t c =
    let calls = calls_of c.args.context in
    let store = store_in c.loop-branch.store in
    branches_end calls c.args.branches.now (otherwise_of c.args.otherwise.now) c.loop-branch.branch-index c.args.turns store _ c.loop-branch-test.false c.loop-branch.invariant.0
    ∙ ap (λ o. Statements.meaning_of_branches calls (otherwise_of o) c.args.turns store) c.in-None.is

pub execute-choose-requires : goal.execute-choose-requires
execute-choose-requires t c =
    let whole = ap size (ap statement_of c.in-If.is ∙ statement_of-if c.in-If.branches c.in-If.otherwise) in
    let parts = ap (λ bs. size_of_branches (branches_in bs (otherwise_of c.in-If.otherwise))) c.as_slice-in-If.ensures.value in
    (omega (arith, whole, parts), tt)

pub execute-run_while-requires : goal.execute-run_while-requires
execute-run_while-requires t c =
    let whole = ap size (ap statement_of c.in-While.is ∙ statement_of-while c.in-While.condition c.in-While.body) in
    let parts = ap (λ ss. size_of_all (statements_in ss)) c.as_slice-in-While.ensures.value in
    (omega (arith, whole, parts), tt)

pub execute-run_repeat-requires : goal.execute-run_repeat-requires
execute-run_repeat-requires t c =
    let whole = ap size (ap statement_of c.in-Repeat.is ∙ statement_of-repeat c.in-Repeat.body c.in-Repeat.condition) in
    let parts = ap (λ ss. size_of_all (statements_in ss)) c.as_slice-in-Repeat.ensures.value in
    (omega (arith, whole, parts), tt)

pub execute-returns-in-Assign-clause-outcome : goal.execute-returns-in-Assign-clause-outcome
execute-returns-in-Assign-clause-outcome t c =
    let calls = calls_of c.args.context in
    let store = store_in c.args.store.now in
    comes_as _ _ c.assign.result (store_in c.assign.new.store)
    (ap (λ s. Statements.meaning calls (statement_of s) c.args.turns store) c.in-Assign.is)
    (c.assign.ensures.outcome calls)

pub execute-returns-in-If-clause-outcome : goal.execute-returns-in-If-clause-outcome
execute-returns-in-If-clause-outcome t c =
    let calls = calls_of c.args.context in
    let store = store_in c.args.store.now in
    comes_as _ _ c.choose.result (store_in c.choose.new.store)
    (ap (λ s. Statements.meaning calls s c.args.turns store) (ap statement_of c.in-If.is ∙ statement_of-if c.in-If.branches c.in-If.otherwise)
    ∙ ap (λ bs. Statements.meaning_of_branches calls (branches_in bs (otherwise_of c.in-If.otherwise)) c.args.turns store) (sym c.as_slice-in-If.ensures.value))
    c.choose.ensures.outcome

pub execute-returns-in-While-clause-outcome : goal.execute-returns-in-While-clause-outcome
execute-returns-in-While-clause-outcome t c =
    let calls = calls_of c.args.context in
    let store = store_in c.args.store.now in
    let condition = expression_of c.in-While.condition in
    comes_as _ _ c.run_while.result (store_in c.run_while.new.store)
    (ap (λ s. Statements.meaning calls s c.args.turns store) (ap statement_of c.in-While.is ∙ statement_of-while c.in-While.condition c.in-While.body)
    ∙ ap (λ ss. Statements.loop c.args.turns condition (Statements.meaning_of_all calls (statements_in ss)) c.args.turns store) (sym c.as_slice-in-While.ensures.value))
    c.run_while.ensures.outcome

pub execute-returns-in-Repeat-clause-outcome : goal.execute-returns-in-Repeat-clause-outcome
execute-returns-in-Repeat-clause-outcome t c =
    let calls = calls_of c.args.context in
    let store = store_in c.args.store.now in
    let condition = expression_of c.in-Repeat.condition in
    comes_as _ _ c.run_repeat.result (store_in c.run_repeat.new.store)
    (ap (λ s. Statements.meaning calls s c.args.turns store) (ap statement_of c.in-Repeat.is ∙ statement_of-repeat c.in-Repeat.body c.in-Repeat.condition)
    ∙ ap (λ ss. Statements.rounds c.args.turns (Statements.meaning_of_all calls (statements_in ss)) condition c.args.turns store) (sym c.as_slice-in-Repeat.ensures.value))
    c.run_repeat.ensures.outcome

pub run_while-again-preserved : goal.run_while-again-preserved
run_while-again-preserved t c =
    let calls = calls_of c.args.context in
    let condition = expression_of c.args.condition.now in
    let body = Statements.meaning_of_all calls (statements_in c.args.body.now) in
    let n = c.again.invariant.0.0 in
    let le = c.again.invariant.0.1.0 in
    let fewer = c.in_ok-left.ensures.turns in
    let store = store_in c.again.store in
    let goes = loop_goes n condition body c.again.left store c.in_ok-evaluate.field-0 (omega arith) le c.in_ok-evaluate.ensures (sym c.truth_of.ensures ∙ c.if-truth_of.true) in (
      (
        n - 1,
        (
          omega (arith, le, fewer),
          sym (ap (λ o. Statements.then_run o (Statements.loop (n - 1) condition body)) c.in_ok-left.ensures.outcome) ∙ sym goes ∙ c.again.invariant.0.1.1,
        ),
      ),
      (omega (arith, fewer, c.again.invariant.1.0), c.run.ensures.begun ∙ c.again.invariant.1.1),
    )

pub run_while-returns-clause-outcome : goal.run_while-returns-clause-outcome
run_while-returns-clause-outcome t c =
    let body = Statements.meaning_of_all (calls_of c.args.context) (statements_in c.args.body.now) in
    sym c.again.invariant.0.1.1
    ∙ loop_ends c.again.invariant.0.0 (expression_of c.args.condition.now) body c.again.left (store_in c.again.store) c.in_ok-evaluate.field-0 c.in_ok-evaluate.ensures (sym c.truth_of.ensures ∙ c.if-truth_of.false)

pub run_repeat-rounds-preserved : goal.run_repeat-rounds-preserved
run_repeat-rounds-preserved t c =
    let calls = calls_of c.args.context in
    let condition = expression_of c.args.condition.now in
    let body = Statements.meaning_of_all calls (statements_in c.args.body.now) in
    let n = c.rounds.invariant.0.0 in
    let le = c.rounds.invariant.0.1.0 in
    let fewer = c.in_ok-left.ensures.turns in
    let goes = rounds_again n body condition c.rounds.left c.in_ok-left.left (store_in c.rounds.store) (store_in c.run.new.store) (omega arith) le c.in_ok-left.ensures.outcome c.in_ok-evaluate.field-0 c.in_ok-evaluate.ensures (sym c.truth_of.ensures ∙ c.if-truth_of.false) in (
      (n - 1, (omega (arith, le, fewer), sym goes ∙ c.rounds.invariant.0.1.1)),
      (omega (arith, fewer, c.rounds.invariant.1.0), c.run.ensures.begun ∙ c.rounds.invariant.1.1),
    )

pub run_repeat-returns-then-truth_of-clause-outcome : goal.run_repeat-returns-then-truth_of-clause-outcome
run_repeat-returns-then-truth_of-clause-outcome t c =
    let body = Statements.meaning_of_all (calls_of c.args.context) (statements_in c.args.body.now) in
    sym c.rounds.invariant.0.1.1
    ∙ rounds_end c.rounds.invariant.0.0 body (expression_of c.args.condition.now) c.rounds.left c.in_ok-left.left (store_in c.rounds.store) (store_in c.run.new.store)
    (omega arith) c.rounds.invariant.0.1.0 c.in_ok-left.ensures.outcome c.in_ok-evaluate.field-0 c.in_ok-evaluate.ensures (sym c.truth_of.ensures ∙ c.if-truth_of.true)

pub run-execute-requires : goal.run-execute-requires
run-execute-requires t c =
    let less = size_at c.args.statements.now c.loop-statement.statement-index c.statement-item.result c.loop-statement-test.true in
    let same = ap (λ s. size (statement_of s)) c.statement-item.is in
    (omega (arith, less, same), tt)
