-- From the start until no place is left.
use Rattle.std.proofs.Common.{◌+◌, arith}
use Rattle.std.proofs.lemmas.List.{length-map}
use Rattle.wf_outcomes.specs.Explored.{kept_in, all_kept, calls_in}
use Rattle.wf_outcomes.proofs.Growing.{explored, has_more}
use Rattle.wf_outcomes.proofs.exploring.explore.Goals as goal

pub returns-then-most-eq0-clause-most : goal.returns-then-most-eq0-clause-most
returns-then-most-eq0-clause-most g c = λ _.
    let effect = g.O.Object.effect c.args.object.now in
    let size = length-map c.in_ok-seen.seen.keys (kept_in g.O.Object.meaning) in
    let one = c.in_ok-seen.ensures.one in
    let none = c.if-most-eq0.true in
    has_more effect (calls_in c.args.scripts.now) (g.O.Object.opening c.args.object.now) (all_kept g.O.Object.meaning c.in_ok-seen.seen) 0 0 c.in_ok-seen.ensures.exploring c.args.most (omega (arith, size, one, none))

pub returns-then-len-most-clause-most : goal.returns-then-len-most-clause-most
returns-then-len-most-clause-most g c = λ _.
    let effect = g.O.Object.effect c.args.object.now in
    let seen = c.expand.new.seen in
    let size = length-map seen.keys (kept_in g.O.Object.meaning) in
    let count = c.len-in-loop-place.ensures.len in
    let many = c.if-len-most.true in
    has_more effect (calls_in c.args.scripts.now) (g.O.Object.opening c.args.object.now) (all_kept g.O.Object.meaning seen) (c.loop-place.place + 1) 0 c.in_ok-expand.ensures.exploring c.args.most (omega (arith, size, count, many))

pub returns-clause-few : goal.returns-clause-few
returns-clause-few g c =
    let size = length-map c.loop-place.seen.keys (kept_in g.O.Object.meaning) in
    let few = c.loop-place.invariant.few in
    omega (arith, size, few)

pub invariant_of-result : goal.invariant_of-result
invariant_of-result g c =
    let effect = g.O.Object.effect c.args.object.now in
    let seen = c.loop-place.seen in
    let size = length-map seen.keys (kept_in g.O.Object.meaning) in
    let count = c.len.ensures.len in
    let end = c.loop-place-test.false in
    record { worded = c.loop-place.invariant.worded; remembered = ∣ c.loop-place.invariant.memory ∣₁; told = ∣ c.in_ok-telling.ensures ∣₁; explored = ∣ explored effect (calls_in c.args.scripts.now) (g.O.Object.opening c.args.object.now) (all_kept g.O.Object.meaning seen) c.loop-place.place 0 c.loop-place.invariant.exploring (omega (arith, size, count, end)) ∣₁ }
