use Rattle.wf_table.proofs.TableBodies.{functional}
use Rattle.wf_theorems.proofs.runs.every_body.Goals as goal

pub returns-clause-returns : goal.returns-clause-returns
returns-clause-returns g c = λ e block after call values lawful fits effect. (g.met.E.Engine.law e).returns block call after values lawful fits effect

pub returns-clause-traps : goal.returns-clause-traps
returns-clause-traps g c = λ e block after call k lawful fits effect. (g.met.E.Engine.law e).traps block call after k lawful fits effect

pub returns-clause-returned : goal.returns-clause-returned
returns-clause-returned g c = λ e block call n lawful fits turn.
    let reached = (g.met.E.Engine.law e).returned block call n lawful fits turn in (reached.values, reached.effect)

pub returns-clause-trapped : goal.returns-clause-trapped
returns-clause-trapped g c = λ e block call n k lawful fits turn.
    let reached = (g.met.E.Engine.law e).trapped block call n k lawful fits turn in (reached.number, reached.effect)

pub returns-clause-never_stuck : goal.returns-clause-never_stuck
returns-clause-never_stuck g c = λ e block call n lawful fits. (g.met.E.Engine.law e).never_stuck block call n lawful fits

pub returns-clause-functional : goal.returns-clause-functional
returns-clause-functional g c = λ e block after other call reply another lawful fits effect effect'.
    let i = g.E.Engine in functional (i.meaning e) (i.lawful e) (i.fits e) (i.ready e) (i.effect e) (g.met.E.Engine.law e) block call after other reply another lawful fits effect effect'
