use Rattle.std.proofs.Common.{◌≡◌}
use Rattle.wf_trials.proofs.sample_runs.adder.Given as goal

abbrev pub invariant-loop : goal.invariant-loop
invariant-loop l = l.machine.sizes.processes ≡ 2
