use Rattle.std.proofs.Common.{◌∙◌, Some, ap}
use Rattle.ob_desk_serve.proofs.Seats.{more_turns, refused_as_often}
use Rattle.ob_desk_serve.proofs.worker.work.Goals as goal

pub returns-in-Some-ended : goal.returns-in-Some-ended
returns-in-Some-ended g c =
    let so_far = c.loop.invariant in
    let worked = c.work_on-ended.ensures in
    let after = c.work_on-ended.new.seat in
    let is = c.in-Some-ended.is in
    let seat = more_turns c.args.seat c.loop.seat after so_far.seat worked.seat in
    record {
      seat = seat;
      are_let = λ so. worked.are_let (so_far.are_let so);
      told = worked.told so_far.told;
      answers = λ enough. worked.answers (λ short. enough (cc)) c.args.seat.answers so_far.answers;
      done = λ well. worked.done (is ∙ ap Some well);
      refused = λ refused. refused_as_often (g.G.Gate.refuses c.args.gate.now) c.args.limit c.args.seat after c.work_on-ended.new.refusals seat.process (worked.ends (is ∙ ap Some refused)) worked.are_refused;
    }
