-- Turned round.
use Rattle.std.proofs.Common.{List, subst, sym}
use Rattle.wf_history.specs.declared.event.CallId.{CallId}
use Rattle.wf_outcomes.specs.Explored.{all_kept, calls_in}
use Rattle.wf_outcomes.specs.Outcomes.{LeadsToPlace}
use Rattle.wf_outcomes.proofs.explored.Explored.path_to.Goals as goal

pub returns : goal.returns
returns g c =
    let self = c.args.self.now in
    let object = self.object.now in
    subst (λ (path : List CallId). ∥ LeadsToPlace (g.O.Object.effect object) (calls_in self.scripts.now) (g.O.Object.opening object) (all_kept g.O.Object.meaning self.seen) path c.args.place ∥₁)
    (sym c.reverse.ensures.items) c.in_ok-path.ensures
