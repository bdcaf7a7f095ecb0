use Rattle.std.proofs.Common.{◌<◌}
use Rattle.ob_desk_serve.specs.Rounds.{AreLet, AreRefused, AreTold, HasBehind, IsAfterTurns}
use Rattle.ob_desk_serve.proofs.worker.work.Given as goal

abbrev pub invariant-loop : goal.invariant-loop
invariant-loop g l =
    record {
      seat : IsAfterTurns l.initial.seat l.seat;
      few : l.refusals < l.limit;
      are_let : AreLet (g.G.Gate.passes l.gate) l.limit l.initial.seat → AreLet (g.G.Gate.passes l.gate) l.limit l.seat;
      are_refused : AreRefused (g.G.Gate.refuses l.gate) l.seat l.refusals;
      told : AreTold (g.G.Gate.hears l.gate) l.answers.items;
      answers : HasBehind l.initial.seat.answers l.seat l.answers.items;
    }
