use Rattle.wf_table.proofs.Performed.{goes_on}
use Rattle.wf_theorems.proofs.runs.every_turn.Goals as goal

pub returns : goal.returns
returns g c = λ e n opening scripts s p below leads.
    let i = g.E.Engine in goes_on (i.meaning e) (i.lawful e) (i.fits e) (i.ready e) (i.effect e) (g.met.E.Engine.law e) n opening scripts s p below leads
