-- What the calls' places say of too early ones, their ids say too.
use Rattle.std.proofs.Common.{map}
use Rattle.std.proofs.lemmas.Option.{MatchOption-at_none}
use Rattle.ob_object_run.proofs.Arranging.{none_early, first_early}
use Rattle.ob_object_run.proofs.Placing.{ids_of}
use Rattle.ob_object_run.proofs.order_checker.arranged.Goals as goal
use Rattle.ob_object_run.specs.OrderFaults.{IsNowhere, EndsUnlisted, IsFirstUnlisted}
use Rattle.ob_object_run.specs.PlacedCalls.{placed_all}
use Rattle.wf_history.specs.View.{event_of}

pub returns-in-Some-first_too_early-clause-fault : goal.returns-in-Some-first_too_early-clause-fault
returns-in-Some-first_too_early-clause-fault c =
    let order = c.args.order.now in
    let places = c.in_ok-places.places in
    let late = c.in-Some-first_too_early.ensures in
    let missing = c.first_missing.ensures order c.in_ok-places.ensures.listed in
    let none = c.in_default.is in (
      c.in_ok-places.ensures.known,
      MatchOption-at_none (IsNowhere (EndsUnlisted (map event_of c.args.events.now) order) (map event_of c.args.events.now)) (IsFirstUnlisted (map event_of c.args.events.now) order) none missing,
      first_early (map event_of c.args.events.now) c.requires (placed_all places order) c.in_ok-places.ensures.placed order c.in-Some-first_too_early.id (ids_of places order) late.0 late.1 late.2,
    )

pub returns-clause-arranged : goal.returns-clause-arranged
returns-clause-arranged c =
    let order = c.args.order.now in
    let places = c.in_ok-places.places in
    let none = c.in_default.is in
    let missing = c.first_missing.ensures order c.in_ok-places.ensures.listed in
    record {
      known = c.in_ok-places.ensures.known;
      listed = MatchOption-at_none (IsNowhere (EndsUnlisted (map event_of c.args.events.now) order) (map event_of c.args.events.now)) (IsFirstUnlisted (map event_of c.args.events.now) order) none missing;
      in_time = none_early (map event_of c.args.events.now) c.requires (placed_all places order) c.in_ok-places.ensures.placed order (ids_of places order) c.in_default-first_too_early.ensures;
    }
