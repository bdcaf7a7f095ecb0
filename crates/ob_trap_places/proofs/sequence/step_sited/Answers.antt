use Rattle.std.proofs.Common.{ap, sym, ◌∙◌}
use Rattle.ob_mean.specs.View.{call_of}
use Rattle.ob_meaning.specs.ByPositionObject.{effect}
use Rattle.ob_store.specs.View.{state_of}
use Rattle.ob_trap_places.proofs.sequence.step_sited.Goals as goal

pub returns-clause-site : goal.returns-clause-site
returns-clause-site c =
    c.in_ok-site.ensures (state_of c.args.state)
    (ap (λ p. effect p (call_of c.args.call.now) c.args.budget (state_of c.args.state)) (sym c.program.ensures.program) ∙ c.in_ok-next.ensures)
