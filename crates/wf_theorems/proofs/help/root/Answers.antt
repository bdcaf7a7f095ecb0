use Rattle.wf_table.proofs.HelpAndOrderRuns.{run_committed}
use Rattle.wf_table.proofs.HelpRuns.{run_helped}
use Rattle.wf_theorems.proofs.help.root.Goals as goal

pub returns-clause-holds : goal.returns-clause-holds
returns-clause-holds g c = λ e n opening acts s leads.
    let i = g.E.Engine in (run_helped (i.meaning e) (i.lawful e) (i.fits e) (i.ready e) (i.effect e) (g.met.E.Engine.law e) n opening acts s leads).root

pub returns-clause-toggles : goal.returns-clause-toggles
returns-clause-toggles g c = λ e n opening acts s k leads lt.
    let i = g.E.Engine in (run_committed (i.meaning e) (i.lawful e) (i.fits e) (i.ready e) (i.effect e) (g.met.E.Engine.law e) n opening acts s leads).helpful.counted.root k lt
