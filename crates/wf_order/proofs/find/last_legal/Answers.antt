-- From the whole history down to one event.
use Rattle.std.proofs.Common.{sym, subst, ℕ, List, ◌≤◌, map, arith}
use Rattle.std.proofs.lemmas.List.{length-map}
use Rattle.std.proofs.lemmas.Option.{MatchOption-at_some}
use Rattle.std.specs.List.{Contains}
use Rattle.wf_history.specs.View.{event_of}
use Rattle.wf_order.specs.declared.seen.Found.{Found}
use Rattle.wf_order.specs.Fronts.{IsFarthest}
use Rattle.wf_order.specs.Search.{found_in, IsWholeSearch}
use Rattle.wf_order.specs.Verdict.{IsBetween}
use Rattle.wf_order.proofs.Deciding.{between_start, between_end}
use Rattle.wf_order.proofs.Fronts.{farthest_legal, sized}
use Rattle.wf_order.proofs.Stepping.{some_at}
use Rattle.wf_order.proofs.find.last_legal.Goals as goal

pub loop-illegal-init : goal.loop-illegal-init
loop-illegal-init g c =
    let effect = g.O.Object.effect c.args.question.now.object.now in
    let opening = g.O.Object.opening c.args.question.now.object.now in
    let processes = c.args.question.now.processes in
    let history = map event_of c.args.question.now.events.now in
    let keys = c.args.seen.now.keys in
    let far = c.farthest_of-legal.ensures history processes c.requires.rows (sized g.O.Object.meaning effect history processes opening keys c.requires.search) in
    let legal = farthest_legal g.O.Object.meaning effect history processes opening keys c.requires.search c.farthest_of-legal.result far in
    record {
      between = subst (λ (n : ℕ). IsBetween effect opening history c.farthest_of-legal.result n) (length-map c.args.question.now.events.now event_of)
          (between_start effect history opening c.requires.none c.farthest_of-legal.result legal);
      search = c.requires.search;
      worded = c.requires.worded;
      farthest = (c.farthest_of-legal.result, omega arith, far);
    }

pub loop-illegal-preserved : goal.loop-illegal-preserved
loop-illegal-preserved g c =
    let effect = g.O.Object.effect c.args.question.now.object.now in
    let opening = g.O.Object.opening c.args.question.now.object.now in
    let processes = c.args.question.now.processes in
    let history = map event_of c.args.question.now.events.now in
    let half = MatchOption-at_some _ _ (c.in-Some.more, c.in-Some.less) c.in-Some.is c.in_ok-more.ensures.halved in
    let higher : c.loop-illegal.legal ≤ c.in-Some.more = some_at (λ (h : ℕ × ℕ). c.loop-illegal.legal ≤ h.0) c.in_ok-more.field-0 (c.in-Some.more, c.in-Some.less) c.in-Some.is c.in_ok-more.ensures.higher in
    let same = c.in_ok-more.ensures.same in
    let far = c.loop-illegal.invariant.farthest in
    let le = far.1 in
    record {
      between = half.0;
      search = subst (λ (ks : List (Found g.row.O-State.Denot)). IsWholeSearch effect opening history processes (map (found_in g.O.Object.meaning) ks)) (sym same) c.loop-illegal.invariant.search;
      worded = λ f there. c.loop-illegal.invariant.worded f (subst (λ (ks : List (Found g.row.O-State.Denot)). Contains ks f) same there);
      farthest = (far.0, omega (arith, le, higher), subst (λ (ks : List (Found g.row.O-State.Denot)). IsFarthest history (map (λ f. f.counts.items) ks) far.0) (sym same) far.2);
    }

pub returns : goal.returns
returns g c =
    let effect = g.O.Object.effect c.args.question.now.object.now in
    let opening = g.O.Object.opening c.args.question.now.object.now in
    let history = map event_of c.args.question.now.events.now in
    let past = c.loop-illegal-test.false in
    between_end effect history opening c.requires.history c.args.question.now.processes c.requires.few c.loop-illegal.legal c.loop-illegal.illegal c.loop-illegal.invariant.between (omega (arith, past))
