use Rattle.wf_table.proofs.Stuck.{stuck_stays}
use Rattle.wf_theorems.proofs.runs.every_stuck_body.Goals as goal

pub returns : goal.returns
returns g c = λ e z opening s p q sound at is stuck.
    let i = g.E.Engine in
    stuck_stays (i.meaning e) (i.lawful e) (i.fits e) (i.ready e) (i.effect e) (g.met.E.Engine.law e) z opening s p q at is stuck sound
