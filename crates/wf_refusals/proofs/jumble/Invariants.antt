use Rattle.std.proofs.Common.{◌≡◌}
use Rattle.wf_refusals.proofs.jumble.Given as goal

abbrev pub invariant-loop-value : goal.invariant-loop-value
invariant-loop-value g l = l.machine.sizes ≡ l.initial.machine.sizes

abbrev pub invariant-loop-p : goal.invariant-loop-p
invariant-loop-p g l = l.machine.sizes ≡ l.initial.machine.sizes
