use Rattle.wf_table.specs.Start.{sizes_of}
use Rattle.wf_table.proofs.TableRuns.{run_sound}
use Rattle.wf_table.proofs.HelpRuns.{run_helped}
use Rattle.wf_table.proofs.Effects.{leads}
use Rattle.wf_theorems.proofs.help.order_leads.Goals as goal

pub returns : goal.returns
returns g c = λ e n opening acts s reached.
    let i = g.E.Engine in
    let law = g.met.E.Engine.law e in
    leads (i.meaning e) (i.lawful e) (i.fits e) (i.ready e) (sizes_of (i.meaning e) n) opening s (run_sound (i.meaning e) (i.lawful e) (i.fits e) (i.ready e) (i.effect e) law n opening acts s reached)
    (i.effect e) law (run_helped (i.meaning e) (i.lawful e) (i.fits e) (i.ready e) (i.effect e) law n opening acts s reached)
