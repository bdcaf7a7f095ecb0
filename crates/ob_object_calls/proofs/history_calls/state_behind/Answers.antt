-- Each call is made in its turn.
use Rattle.std.proofs.Common.{◌<◌, List, add-one, arith, get_or, length, map, subst}
use Rattle.std.proofs.lemmas.List.{take_all}
use Rattle.std.proofs.lemmas.Option.{slice_get-get_or}
use Rattle.ob_checked.specs.CheckedModule.{program_in}
use Rattle.ob_mean.specs.View.{reply_of}
use Rattle.ob_object_run.specs.LegalOrder.{CallEnds}
use Rattle.ob_object_calls.proofs.OneMore.{lead_more, lead_none}
use Rattle.ob_object_calls.proofs.history_calls.state_behind.Goals as goal
use Rattle.ob_object_calls.specs.MadeCalls.{LeadTo}
use Rattle.ob_store.specs.View.{state_of}
use Rattle.wf_history.proofs.Positions.{contains_at}
use Rattle.wf_history.specs.View.{event_of}
use Rattle.wf_history.specs.declared.event.CallId.{CallId}

abbrev default : CallId
default = record { process = 0; number = 0 }

pub loop-id-init : goal.loop-id-init
loop-id-init c =
    lead_none (CallEnds (program_in c.args.checked.now) c.args.budget) (state_of c.args.opening.now) (map event_of c.args.events.now) (state_of c.in_ok-state.state) c.in_ok-state.ensures

pub returns-in_default : goal.returns-in_default
returns-in_default c =
    let i = c.loop-id.id-index in
    let ids = c.args.ids.now in
    let lt : i < length ids = omega arith in
    let id = get_or ids i default in
    (id, contains_at ids i id (slice_get-get_or ids i default lt), rw c.in_default.is at c.in_ok-next.ensures)

pub loop-id-preserved : goal.loop-id-preserved
loop-id-preserved c =
    let i = c.loop-id.id-index in
    let ids = c.args.ids.now in
    let lt : i < length ids = omega arith in
    let id = get_or ids i default in
    let m = rw c.in-Some.is at c.in_ok-next.ensures in
    rw add-one
    (lead_more (CallEnds (program_in c.args.checked.now) c.args.budget) (state_of c.args.opening.now) (map event_of c.args.events.now) ids i id m.0
    (state_of c.loop-id.state) (state_of c.in-Some.next) (reply_of c.in-Some.field-0-1) (slice_get-get_or ids i default lt) c.loop-id.invariant m.1 m.2)

pub returns : goal.returns
returns c =
    let i = c.loop-id.id-index in
    let ids = c.args.ids.now in
    let whole = take_all i ids (omega arith) in
    subst (λ (is : List CallId). LeadTo (CallEnds (program_in c.args.checked.now) c.args.budget) (state_of c.args.opening.now) (map event_of c.args.events.now) is (state_of c.loop-id.state)) whole c.loop-id.invariant
