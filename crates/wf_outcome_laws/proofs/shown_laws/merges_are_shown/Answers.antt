use Rattle.wf_outcome_laws.proofs.Shows.{every_merge}
use Rattle.wf_outcome_laws.proofs.shown_laws.merges_are_shown.Goals as goal

pub returns : goal.returns
returns g c = λ e.
    let i = g.E.Engine in every_merge (i.meaning e) (i.lawful e) (i.fits e) (i.ready e) (i.effect e) (g.met.E.Engine.law e)
