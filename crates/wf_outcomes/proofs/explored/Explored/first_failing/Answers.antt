-- What holds of each place so far.
use Rattle.std.proofs.Common.{ap, sym, subst, ◌∙◌, option_map, arith}
use Rattle.std.proofs.lemmas.List.{length-map}
use Rattle.std.proofs.lemmas.Option.{slice_get-map}
use Rattle.wf_outcomes.specs.Explored.{kept_in, all_kept}
use Rattle.wf_outcomes.specs.Questions.{IsAnswered}
use Rattle.wf_outcomes.proofs.Backward.{good_more}
use Rattle.wf_outcomes.proofs.explored.Explored.first_failing.Goals as goal

pub returns-then-not-branch : goal.returns-then-not-branch
returns-then-not-branch g c =
    let view = kept_in g.O.Object.meaning in
    let at = slice_get-map view c.args.self.now.seen.keys c.loop-place.place ∙ ap (option_map view) c.index.ensures in (
      view c.index.result.now,
      at,
      (λ good. let t = c.in_ok-answers.ensures.1 (subst (λ (s : g.row.O-State.Denot). IsAnswered (g.O.Object.effect c.args.self.now.object.now) c.args.question (g.O.Object.meaning s)) (sym c.state.ensures) good) in let f = c.if-not-branch.true in absurd (cc)),
      c.loop-place.invariant,
    )

pub loop-place-preserved : goal.loop-place-preserved
loop-place-preserved g c =
    let view = kept_in g.O.Object.meaning in
    let self = c.args.self.now in
    let question = c.args.question in
    let at = slice_get-map view self.seen.keys c.loop-place.place ∙ ap (option_map view) c.index.ensures in
    good_more (IsAnswered (g.O.Object.effect self.object.now) question) (all_kept g.O.Object.meaning self.seen) c.loop-place.place c.loop-place.invariant
    (view c.index.result.now) at
    (subst (λ (s : g.row.O-State.Denot). IsAnswered (g.O.Object.effect self.object.now) question (g.O.Object.meaning s)) c.state.ensures (c.in_ok-answers.ensures.0 c.if-not-branch.false))

pub returns : goal.returns
returns g c = λ k e lt there.
    let size = length-map c.args.self.now.seen.keys (kept_in g.O.Object.meaning) in
    let all = c.len-place-end.ensures.len in
    let end = c.loop-place-test.false in
    c.loop-place.invariant k e (omega (arith, lt, size, all, end)) there
