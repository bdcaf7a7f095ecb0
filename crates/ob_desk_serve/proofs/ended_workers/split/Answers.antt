use Rattle.std.proofs.Common.{Global, List, Vec, map}
use Rattle.ob_desk_floor.specs.declared.seat.CallAnswer.{CallAnswer}
use Rattle.ob_desk_serve.proofs.Started.{none_more, one_list_more, one_more}
use Rattle.ob_desk_serve.specs.declared.worker.Worked.{Worked}
use Rattle.ob_desk_serve.proofs.ended_workers.split.Goals as goal

pub loop-worker-preserved-in-Continue-branch-4 : goal.loop-worker-preserved-in-Continue-branch-4
loop-worker-preserved-in-Continue-branch-4 c =
    let so_far = c.loop-worker.invariant in
    let w = c.in-Some-worker.worked in
    record {
      seats = one_more (λ (x : Worked). x.seat) c.loop-worker.yielded c.in-Some.worker w c.loop-worker.seats.items c.push.new.self.items c.in-Some-worker.is c.in_ok-push.ensures.items so_far.seats;
      answers = one_list_more c.loop-worker.yielded c.in-Some.worker w c.loop-worker.answers.items c.push-in-Some-worker.new.self.items c.in-Some-worker.is c.in_ok-push-2.ensures.items so_far.answers;
    }

pub loop-worker-preserved : goal.loop-worker-preserved
loop-worker-preserved c =
    let so_far = c.loop-worker.invariant in
    let items : Vec CallAnswer Global → List CallAnswer = λ v. v.items in
    record {
      seats = none_more (λ (x : Worked). x.seat) c.loop-worker.yielded c.in-Some.worker c.loop-worker.seats.items c.in_default.is so_far.seats;
      answers = none_more (λ (x : Worked). x.answers.items) c.loop-worker.yielded c.in-Some.worker (map items c.loop-worker.answers.items) c.in_default.is so_far.answers;
    }
