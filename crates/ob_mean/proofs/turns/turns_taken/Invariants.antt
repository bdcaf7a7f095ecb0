-- Fewer turns than the lower number are too few, and as many as the higher one are enough, where they aren't the budget.
use Rattle.std.proofs.Common.{◌-◌}
use Rattle.ob_checked.specs.CheckedModule.{program_in}
use Rattle.ob_mean.specs.View.{call_of}
use Rattle.ob_store.specs.View.{state_of}
use Rattle.ob_mean.proofs.Least.{Narrowed}
use Rattle.ob_mean.proofs.turns.turns_taken.Given as goal

abbrev pub invariant-loop-low : goal.invariant-loop-low
invariant-loop-low l = Narrowed (program_in l.checked) l.budget (call_of l.call) (state_of l.state) l.low l.high

abbrev pub decreases-loop-low : goal.decreases-loop-low
decreases-loop-low l = l.high - l.low
