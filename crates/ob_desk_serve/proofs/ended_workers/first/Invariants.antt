use Rattle.std.proofs.Common.{take}
use Rattle.ob_desk_serve.specs.NotAllEnded.{NoneEnded}
use Rattle.ob_desk_serve.proofs.ended_workers.first.Given as goal

abbrev pub invariant-loop-process : goal.invariant-loop-process
invariant-loop-process l = NoneEnded l.which (take l.process l.workers)
