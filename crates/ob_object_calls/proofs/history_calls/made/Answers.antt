use Rattle.std.proofs.Common.{map}
use Rattle.std.specs.HashMap as hash
use Rattle.ob_object_run.specs.Places.{same_id}
use Rattle.ob_object_calls.proofs.OneMore.{call_ends}
use Rattle.ob_object_calls.proofs.Noted.{begin_at, begun_here, never_begun}
use Rattle.ob_object_calls.proofs.history_calls.made.Goals as goal
use Rattle.ob_store.specs.View.{state_of}
use Rattle.wf_history.specs.View.{event_of, seen_call}

pub returns-in_default : goal.returns-in_default
returns-in_default c = never_begun (map event_of c.args.events.now) (hash.get same_id c.args.begins.now) c.requires c.args.id c.in_default.ensures.value

pub call_at-requires : goal.call_at-requires
call_at-requires c =
    (c.args.id, begin_at (map event_of c.args.events.now) (hash.get same_id c.args.begins.now) c.requires c.args.id c.in-Some.begin.now c.in-Some.ensures.value)

pub returns : goal.returns
returns c =
    let history = map event_of c.args.events.now in
    let call = seen_call c.call_at.result in
    let at = begin_at history (hash.get same_id c.args.begins.now) c.requires c.args.id c.in-Some.begin.now c.in-Some.ensures.value in (
      call,
      begun_here history c.args.id c.call_at.ensures.0 c.in-Some.begin.now call at c.call_at.ensures.1,
      call_ends _ _ _ _ c.args.budget (state_of c.args.state) _ c.program.ensures.program c.in_ok-call.ensures c.in_ok-next.ensures,
    )
