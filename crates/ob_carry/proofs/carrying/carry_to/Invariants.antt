use Rattle.std.proofs.Common.{take}
use Rattle.ob_meaning.specs.Same.{SameState}
use Rattle.ob_checked.specs.View.{program_of}
use Rattle.ob_store.specs.View.{variables_in}
use Rattle.ob_carry.specs.Carried.{AreCarriable, carried}
use Rattle.ob_carry.specs.View.{entries_of}
use Rattle.ob_carry.proofs.carrying.carry_to.Given as goal

-- the state that the values so far come to
abbrev pub invariant-loop-place : goal.invariant-loop-place
invariant-loop-place l =
    record {
      same : SameState (program_of l.program) (carried (program_of l.program) (take l.place (entries_of l.values))) (variables_in l.all.items);
      carriable : AreCarriable (program_of l.program).variables (take l.place (entries_of l.values));
    }
