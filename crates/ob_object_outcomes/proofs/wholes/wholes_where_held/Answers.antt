-- By the question, and then by what is told.
use Rattle.std.proofs.Common.{ap, List, Err, subst, sym}
use Rattle.std.proofs.lemmas.Result.{err_from_is_err_and}
use Rattle.ob_checked.specs.CheckedModule.{program_in}
use Rattle.ob_interface.specs.Call.{Reply}
use Rattle.ob_object_run.specs.LegalOrder.{CallEnds}
use Rattle.ob_object_outcomes.proofs.WholesAsked.{failing_is, telling_is}
use Rattle.ob_meaning.specs.ByPositionStore.{Activation}
use Rattle.ob_store.specs.View.{state_of}
use Rattle.wf_outcomes.specs.Explored.{calls_in}
use Rattle.wf_outcomes.specs.OutcomeOrders.{IsItself}
use Rattle.wf_whole_outcomes.specs.Wholes.{AreWholes, WholeTold}
use Rattle.ob_object_outcomes.proofs.wholes.wholes_where_held.Goals as goal

pub returns-in_err-must_hold-clause-fault : goal.returns-in_err-must_hold-clause-fault
returns-in_err-must_hold-clause-fault c =
    let e = c.args.explored.now in
    let o = e.object.now in
    let p = err_from_is_err_and c.from_residual.result c.from_residual.ensures.1 in
    rw (p.1, p.2) (failing_is (CallEnds (program_in o.checked.now) o.budget) (calls_in e.scripts.now) (state_of o.opening.now) c.args.question c.args.bounds.now.most c.in_err-must_hold.field-0.0 c.in_err-must_hold.ensures.fault)

pub returns-in_err-told-clause-fault : goal.returns-in_err-told-clause-fault
returns-in_err-told-clause-fault c =
    let e = c.args.explored.now in
    let o = e.object.now in
    let p = err_from_is_err_and c.from_residual-in_err-told.result c.from_residual-in_err-told.ensures.1 in
    rw (p.1, p.2)
    (telling_is (CallEnds (program_in o.checked.now) o.budget) (calls_in e.scripts.now) (state_of o.opening.now) c.args.question c.args.bounds.now.most c.in_err-told.field-0.0
    (λ many. c.in_err-told.ensures.most (ap Err many)))

pub returns-clause-wholes : goal.returns-clause-wholes
returns-clause-wholes c =
    let e = c.args.explored.now in
    let o = e.object.now in
    subst (λ (w : List (WholeTold Activation Reply)). ∥ AreWholes IsItself (CallEnds (program_in o.checked.now) o.budget) (calls_in e.scripts.now) (state_of o.opening.now) w ∥₁)
    (sym c.in_ok-outcomes_of.ensures) c.in_ok-told.ensures.wholes
