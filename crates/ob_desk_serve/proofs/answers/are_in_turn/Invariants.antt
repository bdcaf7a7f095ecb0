use Rattle.std.proofs.Common.{◌≡◌, map, take}
use Rattle.wf_theorems.specs.FirstCalls.{first_ids}
use Rattle.ob_desk_serve.proofs.answers.are_in_turn.Given as goal

abbrev pub invariant-loop-i : goal.invariant-loop-i
invariant-loop-i l = map (λ a. a.id) (take l.i l.answers) ≡ first_ids l.process l.i
