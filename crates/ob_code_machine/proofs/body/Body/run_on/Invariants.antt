use Rattle.std.proofs.Common.{◌≡◌, ◌≤◌, ◌-◌, false}
use Rattle.ob_code_machine.specs.Leaps.{Goes}
use Rattle.ob_code_machine.proofs.body.Body.run_on.Given as goal

-- the steps that were made lead here, and the body goes on
abbrev pub invariant-loop-left : goal.invariant-loop-left
invariant-loop-left l = record {
  few : l.left ≤ l.most;
  works : l.self.is_over ≡ false;
  so_far : Goes l.code.instructions (l.most - l.left) l.initial.self l.initial.block l.self l.block;
}

abbrev pub decreases-loop-left : goal.decreases-loop-left
decreases-loop-left l = l.left
