-- The fewest that are enough for all events.
use Rattle.std.proofs.Common.{arith, map}
use Rattle.std.proofs.lemmas.Option.{MatchOption-at_some}
use Rattle.wf_history.specs.View.{event_of}
use Rattle.wf_lookup.proofs.Counted.{counted}
use Rattle.wf_lookup.proofs.counted_processes.process_count.Goals as goal

pub returns-in_default : goal.returns-in_default
returns-in_default c = let many = c.processes_of.ensures.many c.in_default.is in omega (arith, many)

pub returns-then-count-gt-MOST_PROCESSES : goal.returns-then-count-gt-MOST_PROCESSES
returns-then-count-gt-MOST_PROCESSES c =
    let named = c.in-Some.named in
    let enough = MatchOption-at_some _ _ named c.in-Some.is c.processes_of.ensures.enough in
    let least = MatchOption-at_some _ _ named c.in-Some.is c.processes_of.ensures.least in
    let is = counted (map event_of c.args.events.now) named enough least in
    let most = c.max-count.ensures in
    let many = c.if-count-gt-MOST_PROCESSES.true in
    omega (arith, is, most, many)

pub returns : goal.returns
returns c =
    let named = c.in-Some.named in
    let enough = MatchOption-at_some _ _ named c.in-Some.is c.processes_of.ensures.enough in
    let least = MatchOption-at_some _ _ named c.in-Some.is c.processes_of.ensures.least in
    let is = counted (map event_of c.args.events.now) named enough least in
    let most = c.max-count.ensures in
    let few = c.if-count-gt-MOST_PROCESSES.false in
    (omega (arith, is, most), omega (arith, few))
