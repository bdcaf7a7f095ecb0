-- The verdict where the interpreter makes the calls.
use Rattle.std.proofs.Common.{◌≡◌, ℕ, refl, subst, sym}
use Rattle.std.proofs.lemmas.Result.{err_from_is_err_and}
use Rattle.ob_checked.specs.CheckedModule.{program_in}
use Rattle.ob_object_run.proofs.order_checker.check_order.Goals as goal
use Rattle.ob_object_run.specs.Interpreting.{IsAt}
use Rattle.ob_object_run.specs.LegalOrder.{IsLegalOrder}
use Rattle.ob_meaning.specs.ByPositionStore.{Activation}
use Rattle.ob_store.specs.View.{state_of}

pub check_order_by-requires : goal.check_order_by-requires
check_order_by-requires c =
    record {
      program = program_in c.args.checked.now;
      budget = c.args.budget;
      state = state_of c.args.opening.now;
      stands = record { program_is = refl; turns = refl; state_is = c.in_ok-state.ensures };
      takes = λ id call begun. tt;
    }

pub returns-in_err-check_order_by-clause-fault : goal.returns-in_err-check_order_by-clause-fault
returns-in_err-check_order_by-clause-fault c =
    let p = err_from_is_err_and c.from_residual-in_err-check_order_by.result c.from_residual-in_err-check_order_by.ensures.1 in
    rw (p.1, p.2) (c.in_err-check_order_by.ensures.fault (program_in c.args.checked.now) c.args.budget (state_of c.args.opening.now) (record { program_is = refl; turns = refl; state_is = c.in_ok-state.ensures }))

pub returns-in_err-check_order_by-clause-exact : goal.returns-in_err-check_order_by-clause-exact
returns-in_err-check_order_by-clause-exact c =
    let p = err_from_is_err_and c.from_residual-in_err-check_order_by.result c.from_residual-in_err-check_order_by.ensures.1 in
    rw (p.1, p.2) (c.in_err-check_order_by.ensures.exact (program_in c.args.checked.now) c.args.budget (state_of c.args.opening.now) (record { program_is = refl; turns = refl; state_is = c.in_ok-state.ensures }))

pub returns-in_err-check_order_by-clause-accepted : goal.returns-in_err-check_order_by-clause-accepted
returns-in_err-check_order_by-clause-accepted c =
    let p = err_from_is_err_and c.from_residual-in_err-check_order_by.result c.from_residual-in_err-check_order_by.ensures.1 in
    rw (p.1, p.2) (λ last. c.in_err-check_order_by.ensures.accepted (program_in c.args.checked.now) c.args.budget (state_of c.args.opening.now) last (record { program_is = refl; turns = refl; state_is = c.in_ok-state.ensures }))

pub returns-clause-legal : goal.returns-clause-legal
returns-clause-legal c =
    let program = program_in c.args.checked.now in
    let opening = state_of c.args.opening.now in
    let l = c.in_ok-check_order_by.ensures.legal program c.args.budget opening (record { program_is = refl; turns = refl; state_is = c.in_ok-state.ensures }) in
    let at : IsAt program c.args.budget l.0 c.check_order_by.new.maker = l.2 in
    subst (λ (s : Activation). IsLegalOrder program c.args.budget opening c.args.history.now c.args.order.now s) (sym at.state_is) l.1

pub returns-clause-exact : goal.returns-clause-exact
returns-clause-exact c =
    c.in_ok-check_order_by.ensures.exact (program_in c.args.checked.now) c.args.budget (state_of c.args.opening.now)
    (record { program_is = refl; turns = refl; state_is = c.in_ok-state.ensures })
