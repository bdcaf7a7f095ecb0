-- One call more is listed.
use Rattle.std.proofs.Common.{◌<◌, length, get_or, map}
use Rattle.std.proofs.lemmas.List.{get_or_default}
use Rattle.std.proofs.lemmas.Option.{MatchOption-at_none, MatchOption-at_some, slice_get-get_or}
use Rattle.wf_history.specs.View.{event_of}
use Rattle.wf_history.specs.declared.event.CallId.{CallId}
use Rattle.wf_needed.proofs.Placing.{ids_more, listed_more}
use Rattle.wf_needed.proofs.listed_calls.listed_all.Goals as goal

abbrev default : CallId
default = record { process = 0; number = 0 }

pub returns-then-have_ended-clause-listed : goal.returns-then-have_ended-clause-listed
returns-then-have_ended-clause-listed c = c.have_ended.ensures (map event_of c.args.events.now) c.in-Some.processes (c.rows-rows.ensures.rows (map event_of c.args.events.now) c.in-Some.processes c.in_ok-kept.ensures) c.if-have_ended.true

pub unreachable-requires : goal.unreachable-requires
unreachable-requires c =
    let i = c.loop-id.id-index in
    let order = c.args.order.now in
    let lt : i < length order = c.loop-id-test.true in
    let begun = c.requires.begun i (get_or order i default) (slice_get-get_or order i default lt) in
    MatchOption-at_none _ _ c.in_default-known_call.is (c.known_call.ensures.listed (map event_of c.args.events.now) c.in-Some.processes (c.rows-rows.ensures.rows (map event_of c.args.events.now) c.in-Some.processes c.in_ok-kept.ensures)) begun.0 begun.1

pub loop-id-preserved : goal.loop-id-preserved
loop-id-preserved c =
    let i = c.loop-id.id-index in
    let order = c.args.order.now in
    let lt : i < length order = c.loop-id-test.true in
    let id = get_or order i default in
    let listed = c.in-Some-known_call.listed in (
      ids_more c.loop-id.all.items c.push.new.self.items listed order i id c.in_ok-push.ensures.items c.loop-id.invariant.0
          (MatchOption-at_some _ _ listed c.in-Some-known_call.is c.known_call.ensures.id) lt (get_or_default order i default id lt),
      listed_more (map event_of c.args.events.now) c.loop-id.all.items c.push.new.self.items listed c.in_ok-push.ensures.items c.loop-id.invariant.1
          (MatchOption-at_some _ _ listed c.in-Some-known_call.is (c.known_call.ensures.listed (map event_of c.args.events.now) c.in-Some.processes (c.rows-rows.ensures.rows (map event_of c.args.events.now) c.in-Some.processes c.in_ok-kept.ensures))),
    )
