use Rattle.wf_table.proofs.HelpRuns.{run_helped}
use Rattle.wf_theorems.proofs.help.every_help.Goals as goal

pub returns : goal.returns
returns g c = λ e n opening acts s leads.
    let i = g.E.Engine in run_helped (i.meaning e) (i.lawful e) (i.fits e) (i.ready e) (i.effect e) (g.met.E.Engine.law e) n opening acts s leads
