use Rattle.std.proofs.Common.{drop, map}
use Rattle.std.specs.List.{AllByRecursion}
use Rattle.ob_checked.specs.View.{actual_of}
use Rattle.ob_carry.specs.ReadOnly.{HandsOwn}
use Rattle.ob_carry.proofs.sparing_calls.all_hand_own.Given as goal

-- where those that are left do, all do
abbrev pub invariant-loop-actual : goal.invariant-loop-actual
invariant-loop-actual l =
    AllByRecursion HandsOwn (map actual_of (drop l.actual-index l.actuals)) → AllByRecursion HandsOwn (map actual_of l.actuals)
