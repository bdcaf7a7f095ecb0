use Rattle.wf_theorems.proofs.Touches.{touches_one}
use Rattle.wf_theorems.proofs.TouchesBody.{every_step}
use Rattle.wf_theorems.proofs.touched_words.each_step_touches_one_word.Goals as goal

pub returns-clause-rows : goal.returns-clause-rows
returns-clause-rows g c = λ e z p q cell k outside. touches_one (g.E.Engine.meaning e) z p q q.label cell k outside

pub returns-clause-runs : goal.returns-clause-runs
returns-clause-runs g c = λ e z opening s p q sound at.
    let i = g.E.Engine in
    every_step (i.meaning e) (i.lawful e) (i.fits e) (i.ready e) (i.effect e) (g.met.E.Engine.law e) z opening s p q sound at
