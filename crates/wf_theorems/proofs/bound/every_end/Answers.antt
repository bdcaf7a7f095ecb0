use Rattle.wf_theorems.proofs.Ends.{run_ends}
use Rattle.wf_theorems.proofs.bound.every_end.Goals as goal

pub returns-clause-below : goal.returns-clause-below
returns-clause-below g c = λ e n limit opening acts s r all.
    let i = g.E.Engine in run_ends (i.meaning e) (i.lawful e) (i.fits e) (i.ready e) (i.effect e) (g.met.E.Engine.law e) n limit opening acts s r all

pub returns-clause-limit : goal.returns-clause-limit
returns-clause-limit g c = λ e n limit opening acts s r all.
    let i = g.E.Engine in
    c.every_limit.ensures.limit e n limit opening acts s r (run_ends (i.meaning e) (i.lawful e) (i.fits e) (i.ready e) (i.effect e) (g.met.E.Engine.law e) n limit opening acts s r all)
