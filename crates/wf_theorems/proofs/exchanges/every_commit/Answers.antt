use Rattle.wf_table.proofs.HelpAndOrderRuns.{run_committed}
use Rattle.wf_theorems.proofs.exchanges.every_commit.Goals as goal

pub returns : goal.returns
returns g c = λ e n opening acts s leads.
    let i = g.E.Engine in run_committed (i.meaning e) (i.lawful e) (i.fits e) (i.ready e) (i.effect e) (g.met.E.Engine.law e) n opening acts s leads
