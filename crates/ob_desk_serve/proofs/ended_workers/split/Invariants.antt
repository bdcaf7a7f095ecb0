use Rattle.std.proofs.Common.{◌≡◌, map}
use Rattle.ob_desk_serve.specs.NotAllEnded.{started}
use Rattle.ob_desk_serve.proofs.ended_workers.split.Given as goal

abbrev pub invariant-loop-worker : goal.invariant-loop-worker
invariant-loop-worker l =
    record {
      seats : l.seats.items ≡ map (λ w. w.seat) (started l.yielded);
      answers : map (λ list. list.items) l.answers.items ≡ map (λ w. w.answers.items) (started l.yielded);
    }
