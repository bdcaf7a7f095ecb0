-- A call is left out, or stays; and what stands behind the last open one stays.
use Rattle.std.proofs.Common.{◌≡◌, ◌∙◌, ◌<◌, ◌+◌, ◌++◌, ℕ, List, ap, drop, length, arith, subst}
use Rattle.std.proofs.lemmas.List.{take_rest}
use Rattle.wf_needed.proofs.Rounds.{end_here, round_end, round_kept, round_left, round_start}
use Rattle.wf_needed.proofs.needed.round.Goals as goal
use Rattle.wf_needed.specs.Listed.{Replays}
use Rattle.wf_needed.specs.declared.listed_calls.Listed.{Listed}

pub loop-place-init : goal.loop-place-init
loop-place-init g c =
    round_start (g.O.Object.effect c.args.object.now) (g.O.Object.opening c.args.object.now) c.args.all.now (λ call. g.met.O.Object.determined c.args.object.now call)
    c.new-kept.result.items (g.O.Object.meaning c.in_ok-state.state) c.new-kept.ensures.items c.in_ok-state.ensures c.requires

pub loop-place-preserved-then-branch : goal.loop-place-preserved-then-branch
loop-place-preserved-then-branch g c =
    let k = c.loop-place.place in
    let lt : k < length c.args.all.now = omega arith in
    round_left (g.O.Object.effect c.args.object.now) (g.O.Object.opening c.args.object.now) c.args.all.now (λ call. g.met.O.Object.determined c.args.object.now call)
    k c.loop-place.kept.items c.index-all-place.result (g.O.Object.meaning c.loop-place.state) lt c.index-all-place.is c.loop-place.invariant
    (c.in_ok-is_needless.ensures.open c.if-branch.true)
    (subst (λ (cs : List Listed). (last : g.O.Object.Meaning) × Replays (g.O.Object.effect c.args.object.now) (g.O.Object.meaning c.loop-place.state) cs last)
    (take_rest c.args.all.now (k + 1)) (c.in_ok-is_needless.ensures.replays c.if-branch.true))

pub onward-requires : goal.onward-requires
onward-requires g c =
    let k = c.loop-place.place in
    let lt : k < length c.args.all.now = omega arith in
    end_here (g.O.Object.effect c.args.object.now) (g.O.Object.opening c.args.object.now) c.args.all.now (λ call. g.met.O.Object.determined c.args.object.now call)
    k c.loop-place.kept.items c.index-all-place.result (g.O.Object.meaning c.loop-place.state) lt c.index-all-place.is c.loop-place.invariant

pub loop-place-preserved : goal.loop-place-preserved
loop-place-preserved g c =
    let k = c.loop-place.place in
    let lt : k < length c.args.all.now = omega arith in
    round_kept (g.O.Object.effect c.args.object.now) (g.O.Object.opening c.args.object.now) c.args.all.now (λ call. g.met.O.Object.determined c.args.object.now call)
    k c.loop-place.kept.items c.index-all-place.result (g.O.Object.meaning c.loop-place.state) lt c.index-all-place.is c.loop-place.invariant
    c.push.new.self.items (g.O.Object.meaning c.in_ok-state-2.state) c.in_ok-state-2.ensures.0 c.in_ok-state-2.ensures.1 c.in_ok-push.ensures.items
    (λ never. subst (λ (cs : List Listed). (last : g.O.Object.Meaning) → ¬ Replays (g.O.Object.effect c.args.object.now) (g.O.Object.meaning c.loop-place.state) cs last)
    (take_rest c.args.all.now (k + 1)) (c.in_ok-is_needless.ensures.not (λ t. let f = c.if-branch.false in absurd (cc)) never))

pub returns : goal.returns
returns g c =
    let k = c.loop-place.place in
    let until = c.open_until-until.result in
    let past = c.loop-place-test.false in
    let within = c.loop-place.auto.place-end in
    let same : until ≡ k = omega (arith, past, within) in
    round_end (g.O.Object.effect c.args.object.now) (g.O.Object.opening c.args.object.now) c.args.all.now (λ call. g.met.O.Object.determined c.args.object.now call)
    k c.loop-place.kept.items c.extend_from_slice.new.self.items (g.O.Object.meaning c.loop-place.state) c.loop-place.invariant.within
    (λ j d at from. c.open_until-until.ensures.none j d at (omega (arith, same, from)))
    (c.in_ok-extend_from_slice.ensures.items ∙ ap (λ (cs : List Listed). c.loop-place.kept.items ++ cs) (take_rest c.args.all.now until ∙ ap (λ (n : ℕ). drop n c.args.all.now) same))
    c.loop-place.invariant
