-- One call further back.
use Rattle.std.proofs.Common.{ap, ◌∙◌, ◌<◌, option_map, arith}
use Rattle.std.proofs.Math.Bridge.{le_prop}
use Rattle.std.proofs.Math.Logic.{∥∥₁_map, ∥∥₁_elim}
use Rattle.std.proofs.Props.{props}
use Rattle.std.proofs.lemmas.List.{length-map}
use Rattle.std.proofs.lemmas.Option.{slice_get-map}
use Rattle.wf_outcomes.specs.Explored.{kept_in, all_kept, calls_in}
use Rattle.wf_outcomes.proofs.Backward.{earlier, from_none, from_start, from_more}
use Rattle.wf_outcomes.proofs.explored.Explored.path_back.Goals as goal

pub loop-at-init : goal.loop-at-init
loop-at-init g c =
    let self = c.args.self.now in
    record {
      within = c.requires;
      back = ∣ from_none (g.O.Object.effect self.object.now) (calls_in self.scripts.now) (all_kept g.O.Object.meaning self.seen) c.args.place c.requires c.new-path.result.items c.new-path.ensures.items ∣₁;
    }

pub index-one-requires : goal.index-one-requires
index-one-requires g c =
    let size = length-map c.args.self.now.seen.keys (kept_in g.O.Object.meaning) in
    let r = c.loop-at.invariant.within in
    omega (arith, size, r)

pub loop-at-smaller : goal.loop-at-smaller
loop-at-smaller g c =
    let self = c.args.self.now in
    let view = kept_in g.O.Object.meaning in
    let at = slice_get-map view self.seen.keys c.loop-at.at ∙ ap (option_map view) c.index-one.ensures in
    ∥∥₁_elim self.explored le_prop (λ h. earlier (g.O.Object.effect self.object.now) (calls_in self.scripts.now) (all_kept g.O.Object.meaning self.seen) c.loop-at.at (g.O.Object.opening self.object.now) h (view c.index-one.result.now) at c.loop-at-test.true)

pub loop-at-preserved : goal.loop-at-preserved
loop-at-preserved g c =
    let self = c.args.self.now in
    let view = kept_in g.O.Object.meaning in
    let effect = g.O.Object.effect self.object.now in
    let scripts = calls_in self.scripts.now in
    let kept = all_kept g.O.Object.meaning self.seen in
    let opening = g.O.Object.opening self.object.now in
    let one = view c.index-one.result.now in
    let at = slice_get-map view self.seen.keys c.loop-at.at ∙ ap (option_map view) c.index-one.ensures in
    let less : one.from < c.loop-at.at = ∥∥₁_elim self.explored le_prop (λ h. earlier effect scripts kept c.loop-at.at opening h one at c.loop-at-test.true) in
    record {
      within = let w = c.loop-at.invariant.within in omega (arith, w, less);
      back = ∥∥₁_elim self.explored (hlevel props) (λ h. ∥∥₁_map c.loop-at.invariant.back (λ b. from_more effect scripts kept c.args.place opening h c.loop-at.at c.loop-at.path.items b one at c.loop-at-test.true
          c.last_call.result c.last_call.ensures.process c.last_call.ensures.number c.push.new.self.items c.in_ok-push.ensures.items));
    }

pub returns : goal.returns
returns g c =
    let self = c.args.self.now in
    let effect = g.O.Object.effect self.object.now in
    let scripts = calls_in self.scripts.now in
    let kept = all_kept g.O.Object.meaning self.seen in
    let opening = g.O.Object.opening self.object.now in
    let z = c.loop-at-test.false in
    ∥∥₁_elim self.explored (hlevel props) (λ h. ∥∥₁_map c.loop-at.invariant.back (λ b. from_start effect scripts kept c.args.place opening h c.loop-at.at c.loop-at.path.items b (omega (arith, z))))
