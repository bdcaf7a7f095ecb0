-- Each call leads on, or has another reply; and once the states are the same, the calls that are left have theirs.
use Rattle.std.proofs.Common.{arith, subst}
use Rattle.std.proofs.lemmas.Option.{MatchOption-at_none, MatchOption-at_some}
use Rattle.wf_needed.proofs.Replaying.{alike_first, alike_next, alike_over, alike_same, leads_next, leads_on, never, never_next, none_left}
use Rattle.wf_needed.proofs.replay.replays.Goals as goal
use Rattle.wf_needed.specs.Listed.{Replays}

pub returns-then-branch-clause-replays : goal.returns-then-branch-clause-replays
returns-then-branch-clause-replays g c = λ t. (
  c.requires.0,
  subst (λ (state : g.O.Object.Meaning). Replays (g.O.Object.effect c.args.object.now) state c.args.all.now c.requires.0) (c.in_ok-is_same.ensures.0 c.if-branch.true) c.requires.1,
)

pub returns-in_default-clause-replays : goal.returns-in_default-clause-replays
returns-in_default-clause-replays g c = λ t.
    none_left (g.O.Object.effect c.args.object.now) (g.O.Object.meaning c.args.without.now) c.args.all.now (MatchOption-at_none _ _ c.in_default.is c.split_first.ensures.cases)

pub returns-in_default-2-clause-not : goal.returns-in_default-2-clause-not
returns-in_default-2-clause-not g c = λ f.
    never (g.O.Object.effect c.args.object.now) (λ call. g.met.O.Object.determined c.args.object.now call) c.in-Some.first.now c.args.all.now c.in-Some.rest.now
    (g.O.Object.meaning c.args.without.now) c.in-Some.ensures.cases.0 (MatchOption-at_none _ _ c.in_default-2.is c.in_ok-here.ensures.without)

pub loop-listed-init : goal.loop-listed-init
loop-listed-init g c =
    let led = MatchOption-at_some _ _ c.in-Some-2.here c.in-Some-2.is c.in_ok-here.ensures.with in (
      alike_first (g.O.Object.effect c.args.object.now) (λ call. g.met.O.Object.determined c.args.object.now call) c.in-Some.first.now c.args.all.now c.in-Some.rest.now
          (g.O.Object.meaning c.args.without.now) (g.O.Object.meaning c.in-Some-2.here.without) c.in-Some.ensures.cases.0 (MatchOption-at_some _ _ c.in-Some-2.here c.in-Some-2.is c.in_ok-here.ensures.without),
      c.requires.0,
      leads_on (g.O.Object.effect c.args.object.now) (λ call. g.met.O.Object.determined c.args.object.now call) c.in-Some.first.now c.args.all.now c.in-Some.rest.now
          (g.O.Object.meaning c.args.with.now) (g.O.Object.meaning c.in-Some-2.here.with) c.requires.0 led.0 c.in-Some.ensures.cases.0 led.1 c.requires.1,
    )

pub returns-then-branch-2-clause-replays : goal.returns-then-branch-2-clause-replays
returns-then-branch-2-clause-replays g c = λ t.
    alike_same (g.O.Object.effect c.args.object.now) (λ call. g.met.O.Object.determined c.args.object.now call) (g.O.Object.meaning c.args.without.now) c.args.all.now c.in-Some.rest.now
    c.loop-listed.listed-index (g.O.Object.meaning c.loop-listed.here.without) c.loop-listed.invariant.0 (g.O.Object.meaning c.loop-listed.here.with) c.loop-listed.invariant.1
    (c.in_ok-is_same-2.ensures.0 c.if-branch-2.true) c.loop-listed.invariant.2

pub returns-in_default-3-clause-not : goal.returns-in_default-3-clause-not
returns-in_default-3-clause-not g c = λ f.
    never_next (g.O.Object.effect c.args.object.now) (λ call. g.met.O.Object.determined c.args.object.now call) (g.O.Object.meaning c.args.without.now) c.args.all.now c.in-Some.rest.now
    c.loop-listed.listed-index (g.O.Object.meaning c.loop-listed.here.without) c.loop-listed.invariant.0 c.listed-item.result c.loop-listed-test.true c.listed-item.is
    (MatchOption-at_none _ _ c.in_default-3.is c.in_ok-next.ensures.without)

pub loop-listed-preserved : goal.loop-listed-preserved
loop-listed-preserved g c =
    let led = MatchOption-at_some _ _ c.in-Some-3.next c.in-Some-3.is c.in_ok-next.ensures.with in (
      alike_next (g.O.Object.effect c.args.object.now) (λ call. g.met.O.Object.determined c.args.object.now call) (g.O.Object.meaning c.args.without.now) c.args.all.now c.in-Some.rest.now
          c.loop-listed.listed-index (g.O.Object.meaning c.loop-listed.here.without) c.loop-listed.invariant.0 c.listed-item.result c.loop-listed-test.true c.listed-item.is
          (g.O.Object.meaning c.in-Some-3.next.without) (MatchOption-at_some _ _ c.in-Some-3.next c.in-Some-3.is c.in_ok-next.ensures.without),
      c.loop-listed.invariant.1,
      leads_next (g.O.Object.effect c.args.object.now) (λ call. g.met.O.Object.determined c.args.object.now call) (g.O.Object.meaning c.args.without.now) c.args.all.now c.in-Some.rest.now
          c.loop-listed.listed-index (g.O.Object.meaning c.loop-listed.here.without) c.loop-listed.invariant.0 c.listed-item.result c.loop-listed-test.true c.listed-item.is
          (g.O.Object.meaning c.loop-listed.here.with) (g.O.Object.meaning c.in-Some-3.next.with) c.loop-listed.invariant.1 led.0 led.1 c.loop-listed.invariant.2,
    )

pub returns-clause-replays : goal.returns-clause-replays
returns-clause-replays g c = λ t.
    let past = c.loop-listed-test.false in
    alike_over (g.O.Object.effect c.args.object.now) (λ call. g.met.O.Object.determined c.args.object.now call) (g.O.Object.meaning c.args.without.now) c.args.all.now c.in-Some.rest.now
    c.loop-listed.listed-index (g.O.Object.meaning c.loop-listed.here.without) c.loop-listed.invariant.0 (omega (arith, past))
