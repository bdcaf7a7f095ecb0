use Rattle.wf_play.proofs.Leading.{submit_more}
use Rattle.wf_play.proofs.ended.submit_all.Goals as goal

pub loop-call-preserved : goal.loop-call-preserved
loop-call-preserved g c =
    let asked = c.in_ok-asked.ensures in
    submit_more g.E.Engine.meaning c.args.machine.now c.loop-call.machine c.submit.new.self c.loop-call.yielded c.in-Some.call _ _ (cc) (cc)
    c.loop-call.invariant c.in_ok-submit.ensures.submitted

pub loop-call-preserved-in_ok-submit : goal.loop-call-preserved-in_ok-submit
loop-call-preserved-in_ok-submit g c =
    let asked = c.in_ok-asked.ensures in
    submit_more g.E.Engine.meaning c.args.machine.now c.loop-call.machine c.submit.new.self c.loop-call.yielded c.in-Some.call _ _ (cc) (cc)
    c.loop-call.invariant c.in_ok-submit.ensures.submitted
