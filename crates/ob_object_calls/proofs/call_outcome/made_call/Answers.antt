use Rattle.ob_checked.specs.CheckedModule.{program_in}
use Rattle.ob_mean.specs.View.{reply_of}
use Rattle.ob_object_run.specs.LegalOrder.{CallEnds}
use Rattle.ob_object_calls.proofs.Found.{found, unbegun, unlisted, untold}
use Rattle.ob_object_calls.proofs.call_outcome.made_call.Goals as goal
use Rattle.ob_store.specs.View.{state_of}

pub returns-in_default : goal.returns-in_default
returns-in_default c = unlisted (CallEnds (program_in c.args.checked.now) c.args.budget) (state_of c.args.opening.now) c.args.history.now c.args.order.now c.args.id c.in_default.ensures.place

pub returns-in_default-2 : goal.returns-in_default-2
returns-in_default-2 c =
    unbegun (CallEnds (program_in c.args.checked.now) c.args.budget) (state_of c.args.opening.now) c.args.history.now c.args.order.now c.args.id c.in-Some.place c.in-Some.ensures.place
    (rw (c.events-events.ensures.value, c.in_default-2.is) at c.in_ok-meant.ensures)

pub returns-in_default-3 : goal.returns-in_default-3
returns-in_default-3 c =
    untold (CallEnds (program_in c.args.checked.now) c.args.budget) (state_of c.args.opening.now) c.args.history.now c.args.order.now c.args.id
    (rw (c.events-events.ensures.value, c.in_default-3.is) at c.in_ok-told.ensures)

pub returns : goal.returns
returns c =
    found (CallEnds (program_in c.args.checked.now) c.args.budget) (state_of c.args.opening.now) c.args.history.now c.args.order.now c.args.id c.in-Some.place c.in-Some.ensures.place
    (reply_of c.in-Some-3.told) (reply_of c.in-Some-2.meant)
    (rw (c.events-events.ensures.value, c.in-Some-3.is) at c.in_ok-told.ensures)
    (rw (c.events-events.ensures.value, c.in-Some-2.is) at c.in_ok-meant.ensures)
    c.in_ok-before.before.items c.in_ok-before.ensures.items
