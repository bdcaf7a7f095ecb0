use Rattle.wf_table.specs.Start.{sizes_of}
use Rattle.wf_table.proofs.BodyEnds.{body_goes_on}
use Rattle.wf_table.proofs.Limits.{run_limited}
use Rattle.wf_theorems.proofs.bound.every_limit.Goals as goal

pub returns-clause-limit : goal.returns-clause-limit
returns-clause-limit g c = λ e n limit opening acts s r below.
    let m = g.E.Engine.meaning e in
    let within = c.every_bound.ensures.bound e n opening acts s r in
    run_limited m (sizes_of m n) limit acts r.start (λ p q at. (r.begins.idle p q at).label) below within

pub returns-clause-body : goal.returns-clause-body
returns-clause-body g c = λ e scripts opening block id call limit k all of reached on. body_goes_on (g.E.Engine.meaning e) limit k block call (all.ends id call block of reached) on
