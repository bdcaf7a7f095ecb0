use Rattle.wf_theorems.proofs.FirstOnes.{script_is, first_calls}
use Rattle.wf_theorems.proofs.alone.every_process.Goals as goal

pub returns-clause-script : goal.returns-clause-script
returns-clause-script g c = λ e n p opening acts s lt leads.
    let i = g.E.Engine in script_is (i.meaning e) (i.lawful e) (i.fits e) (i.ready e) (i.effect e) (g.met.E.Engine.law e) n opening acts s leads p lt

pub returns-clause-calls : goal.returns-clause-calls
returns-clause-calls g c = λ e n p opening acts s lt leads.
    let i = g.E.Engine in first_calls (i.meaning e) (i.lawful e) (i.fits e) (i.ready e) (i.effect e) (g.met.E.Engine.law e) n opening acts s leads p lt
