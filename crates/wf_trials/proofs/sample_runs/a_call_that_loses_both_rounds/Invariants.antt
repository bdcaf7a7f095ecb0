use Rattle.std.proofs.Common.{◌≡◌}
use Rattle.wf_trials.proofs.sample_runs.a_call_that_loses_both_rounds.Given as goal

abbrev pub invariant-loop-is_other : goal.invariant-loop-is_other
invariant-loop-is_other g l = l.machine.sizes.processes ≡ 2
