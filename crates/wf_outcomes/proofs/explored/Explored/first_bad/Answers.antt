-- By the first place.
use Rattle.std.proofs.Math.Logic.{∥∥₁_map, ∥∥₁_elim}
use Rattle.std.proofs.Props.{props}
use Rattle.std.proofs.lemmas.Option.{MatchOption-at_none, MatchOption-at_some}
use Rattle.std.proofs.Common.{length}
use Rattle.wf_outcomes.specs.Explored.{all_kept, calls_in}
use Rattle.wf_outcomes.specs.Outcomes.{AreGood, IsFirstPlace}
use Rattle.wf_outcomes.specs.Questions.{IsAnswered}
use Rattle.wf_outcomes.proofs.Backward.{all_good, first_bad_is}
use Rattle.wf_outcomes.proofs.explored.Explored.first_bad.Goals as goal

pub returns-in_default : goal.returns-in_default
returns-in_default g c =
    let self = c.args.self.now in
    let question = c.args.question in
    let kept = all_kept g.O.Object.meaning self.seen in
    let good = IsAnswered (g.O.Object.effect self.object.now) question in
    let all = MatchOption-at_none (AreGood good kept (length kept)) (IsFirstPlace good kept) c.in_default.is c.in_ok-place.ensures in
    ∥∥₁_map self.explored (λ h. all_good (g.O.Object.effect self.object.now) (calls_in self.scripts.now) (g.O.Object.opening self.object.now) kept h good all)

pub returns : goal.returns
returns g c =
    let self = c.args.self.now in
    let question = c.args.question in
    let kept = all_kept g.O.Object.meaning self.seen in
    let good = IsAnswered (g.O.Object.effect self.object.now) question in
    let first = MatchOption-at_some (AreGood good kept (length kept)) (IsFirstPlace good kept) c.in-Some.place c.in-Some.is c.in_ok-place.ensures in
    ∥∥₁_elim self.explored (hlevel props) (λ h. ∥∥₁_map c.in_ok-path.ensures (λ led.
    first_bad_is (g.O.Object.effect self.object.now) (calls_in self.scripts.now) (g.O.Object.opening self.object.now) kept h good c.in-Some.place first c.in_ok-path.path.items led))
