use Rattle.wf_table.proofs.Legal.{run_legal}
use Rattle.wf_theorems.proofs.standing.legal_order.Goals as goal

pub returns : goal.returns
returns g c = λ e n opening acts s leads.
    let i = g.E.Engine in run_legal (i.meaning e) (i.lawful e) (i.fits e) (i.ready e) (i.effect e) (g.met.E.Engine.law e) n opening acts s leads
