-- One place more, and all of them.
use Rattle.std.proofs.Common.{sym, ap, ◌∙◌, subst, ℕ, ◌+◌, option_map, Vec, Global, arith}
use Rattle.std.proofs.Math.Logic.{∥∥₁_map}
use Rattle.std.proofs.lemmas.List.{length-map}
use Rattle.std.proofs.lemmas.Option.{slice_get-map}
use Rattle.wf_outcomes.specs.Explored.{kept_in, all_kept, calls_in}
use Rattle.wf_outcomes.proofs.Full.{AreFull, full_less, full_more, full_all}
use Rattle.wf_outcomes.proofs.explored.Explored.finals.Goals as goal
use Rattle.wf_outcomes.proofs.explored.Explored.finals.Goals.{then-are+in_ok-push, else-are}

pub loop-place-preserved : goal.loop-place-preserved
loop-place-preserved g c =
    let view = kept_in g.O.Object.meaning in
    let kept = all_kept g.O.Object.meaning c.args.self.now.seen in
    let place = c.loop-place.place in
    let one = c.index.result.now in
    let at = slice_get-map view c.args.self.now.seen.keys place ∙ ap (option_map view) c.index.ensures in
    elim c.if-are.branch [
      | then-are+in_ok-push w ↦ full_more kept c.in_ok-full.full.items c.loop-place.places.items place c.loop-place.invariant (view one) at (c.are.ensures.0 w.if-are.true ∙ c.as_slice.ensures.value) c.if-are.places.items (ap (λ (v : Vec ℕ Global). v.items) w.places-is ∙ w.in_ok-push.ensures.items)
      | else-are w ↦ subst (λ (v : Vec ℕ Global). AreFull kept c.in_ok-full.full.items v.items (place + 1)) (sym w.places-is)
          (full_less kept c.in_ok-full.full.items c.loop-place.places.items place c.loop-place.invariant (view one) at (λ same. let t = c.are.ensures.1 (same ∙ sym c.as_slice.ensures.value) in let f = w.if-are.false in absurd (cc)))
    ]

pub returns : goal.returns
returns g c =
    let object = c.args.self.now.object.now in
    let kept = all_kept g.O.Object.meaning c.args.self.now.seen in
    let size = length-map c.args.self.now.seen.keys (kept_in g.O.Object.meaning) in
    let all = c.len-place-end.ensures.len in
    let end = c.loop-place-test.false in
    ∥∥₁_map c.args.self.now.explored (λ h. full_all (g.O.Object.effect object) (calls_in c.args.self.now.scripts.now) (g.O.Object.opening object) kept h c.in_ok-full.full.items c.loop-place.places.items c.loop-place.place c.in_ok-full.ensures c.loop-place.invariant (omega (arith, size, all, end)))
