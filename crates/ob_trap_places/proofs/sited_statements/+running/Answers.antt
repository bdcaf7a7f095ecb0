use Rattle.std.proofs.Common.{◌-◌, ◌*◌, ◌<◌, map, ap, sym, ◌∙◌, arith, subst, length, ◌≡◌, ◌≤◌, Some, Err}
use Rattle.std.proofs.lemmas.Result.{err_from_is_err_and}
use Rattle.ob_checked.specs.View.{expression_of, statement_of, statements_in, branches_in, otherwise_of, program_of, procedure_of, table_of}
use Rattle.ob_checked.proofs.Rows.{statement_of-if, statement_of-while, statement_of-repeat}
use Rattle.ob_mean.proofs.CallsMade.{procedure_here, some_behind}
use Rattle.ob_mean.proofs.Sizes.{size, size_of_all, size_of_branches, size_at, branch_at, last_at, body_at, within_less}
use Rattle.ob_meaning.specs.ByPositionEvaluation.{by_position}
use Rattle.ob_store.specs.View.{store_in, activation_in, variables_in}
use Rattle.ob_trap_places.specs.Site.{Turning, here, Yields, of_part, of_procedure}
use Rattle.ob_typing.specs.Arithmetic.{no_turn_left}
use Rattle.ob_trap_places.specs.SitesOverStore as Sited
use Rattle.ob_trap_places.specs.Running.{calls_of}
use Rattle.ob_trap_places.proofs.Turns.{turn_of}
use Rattle.ob_trap_places.proofs.Steps.{comes_as, run_stops, value_stops, itself_stops, procedure_stops, loop_ends, loop_out, loop_goes, rounds_again, rounds_end, rounds_trap, branch_taken, call_goes, call_out, none_mapped, activated_runs, left_stops, plainly_done}
use Rattle.ob_trap_places.proofs.sited_statements.+running.Goals as goal

pub run-execute_in_part-requires : goal.run-execute_in_part-requires
run-execute_in_part-requires t c =
    let less = size_at c.args.statements.now c.loop-number.number c.index-statements-number.result c.loop-number-test.true in
    let same = ap (λ s. size (statement_of s)) c.index-statements-number.is in
    (omega (arith, less, same), tt)

pub choose-run_branch-requires : goal.choose-run_branch-requires
choose-run_branch-requires t c =
    let less = branch_at c.args.branches.now (otherwise_of c.args.otherwise.now) c.loop-number.number c.index-branches-number.result c.loop-number-test.true in
    let same = ap (λ b. size_of_all (statements_in b.body.items)) c.index-branches-number.is in
    let body = ap (λ ss. size_of_all (statements_in ss)) c.as_slice.ensures.value in
    (omega (arith, less, same, body), tt)

pub choose-run_in_part-requires : goal.choose-run_in_part-requires
choose-run_in_part-requires t c =
    let last = last_at c.args.branches.now (otherwise_of c.args.otherwise.now) in
    let here = ap (λ o. size_of_branches (otherwise_of o)) c.in-Some.is in
    let body = ap (λ ss. size_of_all (statements_in ss)) c.as_slice-in-Some.ensures.value in
    (omega (arith, last, here, body), tt)

pub choose-returns-then-truth_of-clause-outcome : goal.choose-returns-then-truth_of-clause-outcome
choose-returns-then-truth_of-clause-outcome t c =
    let calls = calls_of c.args.context in
    let store = store_in c.loop-number.store in
    comes_as _ _ c.run_branch.result (store_in c.run_branch.new.store)
    (branch_taken calls c.args.branches.now (otherwise_of c.args.otherwise.now) c.loop-number.number c.args.turns c.index-branches-number.result store
    c.in_ok-condition.condition _ c.loop-number-test.true c.index-branches-number.is c.in_ok-condition.ensures (sym c.truth_of.ensures ∙ c.if-truth_of.true) c.loop-number.invariant
    ∙ ap (λ ss. of_part c.loop-number.number (of_part 1 (Sited.meaning_of_all by_position calls 0 (statements_in ss) c.args.turns store))) (sym c.as_slice.ensures.value))
    c.run_branch.ensures.outcome

pub execute-choose-requires : goal.execute-choose-requires
execute-choose-requires t c =
    let whole = ap size (ap statement_of c.in-If.is ∙ statement_of-if c.in-If.branches c.in-If.otherwise) in
    let parts = ap (λ bs. size_of_branches (branches_in bs (otherwise_of c.in-If.otherwise))) c.as_slice-in-If.ensures.value in
    (omega (arith, whole, parts), tt)

pub execute-run_while-requires : goal.execute-run_while-requires
execute-run_while-requires t c =
    let whole = ap size (ap statement_of c.in-While.is ∙ statement_of-while c.in-While.condition c.in-While.body) in
    let parts = ap (λ ss. size_of_all (statements_in ss)) c.as_slice-in-While.ensures.value in
    (omega (arith, whole, parts), tt)

pub execute-run_repeat-requires : goal.execute-run_repeat-requires
execute-run_repeat-requires t c =
    let whole = ap size (ap statement_of c.in-Repeat.is ∙ statement_of-repeat c.in-Repeat.body c.in-Repeat.condition) in
    let parts = ap (λ ss. size_of_all (statements_in ss)) c.as_slice-in-Repeat.ensures.value in
    (omega (arith, whole, parts), tt)

pub execute-returns-in-Assign-clause-outcome : goal.execute-returns-in-Assign-clause-outcome
execute-returns-in-Assign-clause-outcome t c =
    let calls = calls_of c.args.context in
    let store = store_in c.args.store.now in
    comes_as _ _ c.assign.result (store_in c.assign.new.store)
    (ap (λ s. Sited.meaning by_position calls (statement_of s) c.args.turns store) c.in-Assign.is)
    (c.assign.ensures.outcome calls)

pub execute-returns-in-If-clause-outcome : goal.execute-returns-in-If-clause-outcome
execute-returns-in-If-clause-outcome t c =
    let calls = calls_of c.args.context in
    let store = store_in c.args.store.now in
    comes_as _ _ c.choose.result (store_in c.choose.new.store)
    (ap (λ s. Sited.meaning by_position calls s c.args.turns store) (ap statement_of c.in-If.is ∙ statement_of-if c.in-If.branches c.in-If.otherwise)
    ∙ ap (λ bs. Sited.meaning_of_branches by_position calls 0 (branches_in bs (otherwise_of c.in-If.otherwise)) c.args.turns store) (sym c.as_slice-in-If.ensures.value))
    c.choose.ensures.outcome

pub execute-returns-in-While-clause-outcome : goal.execute-returns-in-While-clause-outcome
execute-returns-in-While-clause-outcome t c =
    let calls = calls_of c.args.context in
    let store = store_in c.args.store.now in
    let condition = expression_of c.in-While.condition in
    comes_as _ _ c.run_while.result (store_in c.run_while.new.store)
    (ap (λ s. Sited.meaning by_position calls s c.args.turns store) (ap statement_of c.in-While.is ∙ statement_of-while c.in-While.condition c.in-While.body)
    ∙ ap (λ ss. Sited.loop by_position c.args.turns condition (Sited.meaning_of_all by_position calls 0 (statements_in ss)) c.args.turns store) (sym c.as_slice-in-While.ensures.value))
    c.run_while.ensures.outcome

pub execute-returns-in-Repeat-clause-outcome : goal.execute-returns-in-Repeat-clause-outcome
execute-returns-in-Repeat-clause-outcome t c =
    let calls = calls_of c.args.context in
    let store = store_in c.args.store.now in
    let condition = expression_of c.in-Repeat.condition in
    comes_as _ _ c.run_repeat.result (store_in c.run_repeat.new.store)
    (ap (λ s. Sited.meaning by_position calls s c.args.turns store) (ap statement_of c.in-Repeat.is ∙ statement_of-repeat c.in-Repeat.body c.in-Repeat.condition)
    ∙ ap (λ ss. Sited.rounds by_position c.args.turns (Sited.meaning_of_all by_position calls 0 (statements_in ss)) condition c.args.turns store) (sym c.as_slice-in-Repeat.ensures.value))
    c.run_repeat.ensures.outcome

pub run_while-again-preserved : goal.run_while-again-preserved
run_while-again-preserved t c =
    let calls = calls_of c.args.context in
    let condition = expression_of c.args.condition.now in
    let body = Sited.meaning_of_all by_position calls 0 (statements_in c.args.body.now) in
    let n = c.again.invariant.0.0 in
    let le = c.again.invariant.0.1.0 in
    let fewer = c.in_ok-left.ensures.turns in
    let store = store_in c.again.store in
    let goes = loop_goes n condition body c.again.left store c.in_ok-value_of_part.field-0 (omega arith) le c.in_ok-value_of_part.ensures (sym c.truth_of.ensures ∙ c.if-truth_of.true) in (
      (
        n - 1,
        (
          omega (arith, le, fewer),
          sym (ap (λ o. Sited.then_run by_position o (Sited.loop by_position (n - 1) condition body)) c.in_ok-left.ensures.outcome) ∙ sym goes ∙ c.again.invariant.0.1.1,
        ),
      ),
      omega (arith, fewer, c.again.invariant.1),
    )

pub run_while-returns-clause-outcome : goal.run_while-returns-clause-outcome
run_while-returns-clause-outcome t c =
    let body = Sited.meaning_of_all by_position (calls_of c.args.context) 0 (statements_in c.args.body.now) in
    sym c.again.invariant.0.1.1
    ∙ loop_ends c.again.invariant.0.0 (expression_of c.args.condition.now) body c.again.left (store_in c.again.store) c.in_ok-value_of_part.field-0 c.in_ok-value_of_part.ensures (sym c.truth_of.ensures ∙ c.if-truth_of.false)

pub run_repeat-rounds-preserved : goal.run_repeat-rounds-preserved
run_repeat-rounds-preserved t c =
    let calls = calls_of c.args.context in
    let condition = expression_of c.args.condition.now in
    let body = Sited.meaning_of_all by_position calls 0 (statements_in c.args.body.now) in
    let n = c.rounds.invariant.0.0 in
    let le = c.rounds.invariant.0.1.0 in
    let fewer = c.in_ok-left.ensures.turns in
    let goes = rounds_again n body condition c.rounds.left c.in_ok-left.left (store_in c.rounds.store) (store_in c.run_in_part.new.store) (omega arith) le c.in_ok-left.ensures.outcome c.in_ok-value_of_part.field-0 c.in_ok-value_of_part.ensures (sym c.truth_of.ensures ∙ c.if-truth_of.false) in (
      (n - 1, (omega (arith, le, fewer), sym goes ∙ c.rounds.invariant.0.1.1)),
      omega (arith, fewer, c.rounds.invariant.1),
    )

pub run_repeat-returns-then-truth_of-clause-outcome : goal.run_repeat-returns-then-truth_of-clause-outcome
run_repeat-returns-then-truth_of-clause-outcome t c =
    let body = Sited.meaning_of_all by_position (calls_of c.args.context) 0 (statements_in c.args.body.now) in
    sym c.rounds.invariant.0.1.1
    ∙ rounds_end c.rounds.invariant.0.0 body (expression_of c.args.condition.now) c.rounds.left c.in_ok-left.left (store_in c.rounds.store) (store_in c.run_in_part.new.store)
    (omega arith) c.rounds.invariant.0.1.0 c.in_ok-left.ensures.outcome c.in_ok-value_of_part.field-0 c.in_ok-value_of_part.ensures (sym c.truth_of.ensures ∙ c.if-truth_of.true)

pub call-activate-requires : goal.call-activate-requires
call-activate-requires t c =
    let program = c.args.context.program.now in
    let p = c.in-Some.procedure.now in
    let here = procedure_here program c.deref.result.now c.args.number p c.deref.ensures.value c.in-Some.ensures.lookup.3.0 c.in-Some.ensures.lookup.1 in
    let small = body_at (program_of program).procedures c.args.number (procedure_of (table_of program.types) p) here in
    let some : 0 < c.args.context.more = omega arith in
    let b = 4 * size_of_all (statements_in p.body.items) in
    let within : b < turn_of (program_of program) = omega (arith, small) in
    let less = within_less c.args.context.more (turn_of (program_of program)) b some within in
    (omega (arith, less), tt)

pub call-returns-in-Ok-clause-outcome : goal.call-returns-in-Ok-clause-outcome
call-returns-in-Ok-clause-outcome t c =
    let program = c.args.context.program.now in
    let here = procedure_here program c.deref.result.now c.args.number c.in-Some.procedure.now c.deref.ensures.value c.in-Some.ensures.lookup.3.0 c.in-Some.ensures.lookup.1 in
    call_goes (program_of program) c.args.context.more c.args.number c.args.turns (activation_in c.args.handed) (store_in c.args.store.now) (omega arith) (omega arith)
    ∙ ap (λ o. of_procedure c.args.number (Sited.activated by_position (Sited.calls by_position (program_of program) (c.args.context.more - 1)) o (activation_in c.args.handed) (c.args.turns - 1) (store_in c.args.store.now))) here
    ∙ ap (of_procedure c.args.number) c.in-Ok.ensures.outcome

pub call-returns-in-Err-clause-outcome : goal.call-returns-in-Err-clause-outcome
call-returns-in-Err-clause-outcome t c =
    let program = c.args.context.program.now in
    let calls = Sited.calls by_position (program_of program) (c.args.context.more - 1) in
    let p = procedure_of (table_of program.types) c.in-Some.procedure.now in
    let here = procedure_here program c.deref.result.now c.args.number c.in-Some.procedure.now c.deref.ensures.value c.in-Some.ensures.lookup.3.0 c.in-Some.ensures.lookup.1 in
    let run = Sited.activated by_position calls (Some p) (activation_in c.args.handed) (c.args.turns - 1) (store_in c.args.store.now) in
    comes_as _ (of_procedure c.args.number run) (Err c.within_procedure.result) (store_in c.activate.new.store)
    (call_goes (program_of program) c.args.context.more c.args.number c.args.turns (activation_in c.args.handed) (store_in c.args.store.now) (omega arith) (omega arith)
    ∙ ap (λ o. of_procedure c.args.number (Sited.activated by_position calls o (activation_in c.args.handed) (c.args.turns - 1) (store_in c.args.store.now))) here)
    (procedure_stops c.args.number run c.in-Err.halt c.within_procedure.result (store_in c.activate.new.store) (store_in c.activate.new.store) c.in-Err.ensures.outcome c.within_procedure.ensures)

pub call-returns-in-None-clause-outcome : goal.call-returns-in-None-clause-outcome
call-returns-in-None-clause-outcome t c =
    let program = c.args.context.program.now in
    let beyond = subst (λ ps. length ps ≤ c.args.number) c.deref.ensures.value c.in-None.ensures.lookup.3 in
    call_goes (program_of program) c.args.context.more c.args.number c.args.turns (activation_in c.args.handed) (store_in c.args.store.now) (omega arith) (omega arith)
    ∙ ap (λ o. of_procedure c.args.number (Sited.activated by_position (Sited.calls by_position (program_of program) (c.args.context.more - 1)) o (activation_in c.args.handed) (c.args.turns - 1) (store_in c.args.store.now)))
    (none_mapped (procedure_of (table_of program.types)) program.procedures.items c.args.number beyond)

pub call-returns-then-turns-eq0-clause-outcome : goal.call-returns-then-turns-eq0-clause-outcome
call-returns-then-turns-eq0-clause-outcome t c =
    let program = program_of c.args.context.program.now in
    let none : c.args.turns ≡ 0 = omega arith in
    itself_stops _ (here 0 no_turn_left Turning) c.here-then-turns-eq0.result (store_in c.args.store.now)
    (ap (λ n. Sited.calls by_position program c.args.context.more c.args.number (activation_in c.args.handed) n (store_in c.args.store.now)) none
    ∙ call_out program c.args.context.more c.args.number (activation_in c.args.handed) (store_in c.args.store.now) (omega arith))
    c.here-then-turns-eq0.ensures

pub run_repeat-returns-in_err-value_of_part-clause-outcome : goal.run_repeat-returns-in_err-value_of_part-clause-outcome
run_repeat-returns-in_err-value_of_part-clause-outcome t c =
    let q = err_from_is_err_and c.from_residual-in_err-value_of_part.result c.from_residual-in_err-value_of_part.ensures.1 in
    let body = Sited.meaning_of_all by_position (calls_of c.args.context) 0 (statements_in c.args.body.now) in
    let condition = expression_of c.args.condition.now in
    rw (q.1, q.2)
    (value_stops (λ s. s) (of_part 2 (Sited.value_of by_position (store_in c.run_in_part.new.store) condition)) _ c.in_err-value_of_part.field-0.0 (store_in c.run_in_part.new.store)
    (λ site traps.
    sym c.rounds.invariant.0.1.1
    ∙ rounds_trap c.rounds.invariant.0.0 body condition c.rounds.left c.in_ok-left.left (store_in c.rounds.store) (store_in c.run_in_part.new.store)
    (omega arith) c.rounds.invariant.0.1.0 c.in_ok-left.ensures.outcome site traps)
    c.in_err-value_of_part.ensures)

pub run_while-returns-then-left-eq0-clause-outcome : goal.run_while-returns-then-left-eq0-clause-outcome
run_while-returns-then-left-eq0-clause-outcome t c =
    let body = Sited.meaning_of_all by_position (calls_of c.args.context) 0 (statements_in c.args.body.now) in
    let condition = expression_of c.args.condition.now in
    let none : c.again.left ≡ 0 = omega arith in
    itself_stops _ (here 0 no_turn_left Turning) c.here.result (store_in c.again.store)
    (sym c.again.invariant.0.1.1
    ∙ ap (λ n. Sited.loop by_position c.again.invariant.0.0 condition body n (store_in c.again.store)) none
    ∙ loop_out c.again.invariant.0.0 condition body (store_in c.again.store) c.in_ok-value_of_part.field-0 c.in_ok-value_of_part.ensures (sym c.truth_of.ensures ∙ c.if-truth_of.true))
    c.here.ensures

pub run_while-returns-in_err-left-clause-outcome : goal.run_while-returns-in_err-left-clause-outcome
run_while-returns-in_err-left-clause-outcome t c =
    let q = err_from_is_err_and c.from_residual-in_err-left.result c.from_residual-in_err-left.ensures.1 in
    let body = Sited.meaning_of_all by_position (calls_of c.args.context) 0 (statements_in c.args.body.now) in
    let condition = expression_of c.args.condition.now in
    let n = c.again.invariant.0.0 in
    rw (q.1, q.2)
    (run_stops (of_part 2 (body (c.again.left - 1) (store_in c.again.store))) _ c.in_err-left.field-0.0 (store_in c.run_in_part.new.store) (store_in c.run_in_part.new.store)
    (λ site traps.
    sym c.again.invariant.0.1.1
    ∙ loop_goes n condition body c.again.left (store_in c.again.store) c.in_ok-value_of_part.field-0 (omega arith) c.again.invariant.0.1.0 c.in_ok-value_of_part.ensures (sym c.truth_of.ensures ∙ c.if-truth_of.true)
    ∙ ap (λ o. Sited.then_run by_position o (Sited.loop by_position (n - 1) condition body)) traps)
    c.in_err-left.ensures.outcome)

pub activate-run-requires : goal.activate-run-requires
activate-run-requires t c =
    let body = ap (λ ss. size_of_all (statements_in ss)) c.as_slice-2.ensures.value in
    (omega (arith, body), tt)

pub activate-returns-in_err-left-clause-outcome : goal.activate-returns-in_err-left-clause-outcome
activate-returns-in_err-left-clause-outcome t c =
    let q = err_from_is_err_and c.from_residual-in_err-left.result c.from_residual-in_err-left.ensures.1 in
    let program = c.args.context.program.now in
    let runs = activated_runs (table_of program.types) (calls_of c.args.context) c.args.procedure.now c.args.turns (activation_in c.args.handed) (store_in c.args.store.now) (store_in c.enter.new.self) (activation_in c.in_ok-activation.activation)
    c.as_slice-2.result.now c.as_slice.result.now c.as_slice-2.ensures.value c.as_slice.ensures.value c.in_ok-activation.ensures c.in_ok-enter.ensures.entered in
    rw (q.1, q.2)
    (run_stops _ _ c.in_err-left.field-0.0 (store_in c.run.new.store) (store_in c.run.new.store)
    (λ site traps. runs ∙ left_stops _ site traps) c.in_err-left.ensures.outcome)

pub activate-returns-clause-outcome : goal.activate-returns-clause-outcome
activate-returns-clause-outcome t c =
    let program = c.args.context.program.now in
    activated_runs (table_of program.types) (calls_of c.args.context) c.args.procedure.now c.args.turns (activation_in c.args.handed) (store_in c.args.store.now) (store_in c.enter.new.self) (activation_in c.in_ok-activation.activation)
    c.as_slice-2.result.now c.as_slice.result.now c.as_slice-2.ensures.value c.as_slice.ensures.value c.in_ok-activation.ensures c.in_ok-enter.ensures.entered
    ∙ ap (Sited.left by_position) c.in_ok-left.ensures.outcome
    ∙ ap (λ s. Yields (c.in_ok-left.left, s))
    (sym (c.leave.ensures.left
    (some_behind (program_of program) c.args.context.more c.args.turns c.in_ok-left.left (statements_in c.as_slice-2.result.now)
    (variables_in c.args.store.now.variables.items) (activation_in c.in_ok-activation.activation) (map activation_in c.args.store.now.others.items)
    (store_in c.enter.new.self) (store_in c.run.new.store) c.in_ok-enter.ensures.entered
    (plainly_done (program_of program) c.args.context.more c.args.turns c.in_ok-left.left (statements_in c.as_slice-2.result.now) (store_in c.enter.new.self) (store_in c.run.new.store) c.in_ok-left.ensures.outcome))))
