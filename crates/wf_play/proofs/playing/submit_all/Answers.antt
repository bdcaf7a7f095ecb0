use Rattle.std.proofs.Common.{rules, ap}
use Rattle.wf_play.proofs.Plays.{submissions-push}
use Rattle.wf_play.proofs.playing.submit_all.Goals as goal

pub loop-call-preserved : goal.loop-call-preserved
loop-call-preserved g c =
    let a = c.args.machine.now in
    let m = g.E.Engine.meaning a.engine in
    let more = submissions-push m a.sizes c.loop-call.yielded c.in-Some.call a.state in
    let done = c.in_ok-submit.ensures.submitted in
    let asked = c.in_ok-asked.ensures in
    let state = ap (λ o. o.state) done in
    let so_far = c.loop-call.invariant.state in
    record { object = search rules; state = cc }

pub loop-call-preserved-in_ok-submit : goal.loop-call-preserved-in_ok-submit
loop-call-preserved-in_ok-submit g c =
    let a = c.args.machine.now in
    let m = g.E.Engine.meaning a.engine in
    let more = submissions-push m a.sizes c.loop-call.yielded c.in-Some.call a.state in
    let done = c.in_ok-submit.ensures.submitted in
    let asked = c.in_ok-asked.ensures in
    let state = ap (λ o. o.state) done in
    let so_far = c.loop-call.invariant.state in
    record { object = search rules; state = cc }
