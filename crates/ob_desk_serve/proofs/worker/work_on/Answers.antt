use Rattle.std.proofs.Common.{arith, refl}
use Rattle.ob_desk_serve.proofs.Seats.{go_further, more_turns, none_refused, turn_added, turn_is_let, turned}
use Rattle.ob_desk_serve.proofs.worker.work_on.Goals.{in-Turn+in_default, in-Ask}
use Rattle.ob_desk_serve.proofs.worker.work_on.Goals as goal

pub loop-preserved : goal.loop-preserved
loop-preserved g c =
    let before = c.loop.seat in
    let so_far = c.loop.invariant in
    elim c.match-ask.branch [
      | in-Turn+in_default w ↦
          let after = w.advance-turn.new.seat in
          let asked = w.in-Turn.ensures in
          let ended = w.end_of.ensures in
          let turn = turned w.advance-turn.result before after w.advance-turn.ensures.seat w.advance-turn.ensures.no_seat in
          let added = turn_added w.advance-turn.result before after c.loop.answers.items w.end_of.new.answers.items w.end_of.result w.advance-turn.ensures.seat ended.want ended.answered ended.same (λ is. cc) in
          rw (w.seat-is, w.answers-is) (record {
            seat = more_turns c.args.seat.now before after so_far.seat turn.0;
            counted = omega (arith, turn.1, so_far.counted);
            few = omega (arith, asked.anew refl, c.requires.few);
            are_let = λ so. turn_is_let (g.G.Gate.passes c.args.gate.now) c.args.limit before after turn.0.process turn.1 (asked.is_let refl) (so_far.are_let so);
            are_refused = none_refused (g.G.Gate.refuses c.args.gate.now) after c.ask.new.refusals (asked.anew refl);
            told = λ so. ended.told (so_far.told so);
            answers = go_further c.args.seat.now before after c.args.answers.now.items c.loop.answers.items w.end_of.new.answers.items so_far.answers added;
          })
      | in-Ask w ↦
          rw (w.seat-is, w.answers-is) (record {
            seat = so_far.seat;
            counted = omega (arith, so_far.counted);
            few = w.in-Ask.ensures.on refl;
            are_let = so_far.are_let;
            are_refused = c.ask.ensures.are_refused;
            told = so_far.told;
            answers = so_far.answers;
          })
    ]

pub returns-in-Some-clause-are_let : goal.returns-in-Some-clause-are_let
returns-in-Some-clause-are_let g c =
    let before = c.loop.seat in
    let after = c.advance-turn.new.seat in
    let turn = turned c.advance-turn.result before after c.advance-turn.ensures.seat c.advance-turn.ensures.no_seat in
    λ so. turn_is_let (g.G.Gate.passes c.args.gate.now) c.args.limit before after turn.0.process turn.1 (c.in-Turn.ensures.is_let refl) (c.loop.invariant.are_let so)
