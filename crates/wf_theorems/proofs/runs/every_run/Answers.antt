use Rattle.wf_table.proofs.TableRuns.{run_sound}
use Rattle.wf_theorems.proofs.runs.every_run.Goals as goal

pub returns : goal.returns
returns g c = λ e n opening acts s leads.
    let i = g.E.Engine in run_sound (i.meaning e) (i.lawful e) (i.fits e) (i.ready e) (i.effect e) (g.met.E.Engine.law e) n opening acts s leads
