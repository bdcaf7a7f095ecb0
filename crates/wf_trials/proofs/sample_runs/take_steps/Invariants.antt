use Rattle.std.proofs.Common.{◌≡◌}
use Rattle.wf_trials.proofs.sample_runs.take_steps.Given as goal

abbrev pub invariant-loop : goal.invariant-loop
invariant-loop g l = l.machine.sizes ≡ l.initial.machine.sizes
