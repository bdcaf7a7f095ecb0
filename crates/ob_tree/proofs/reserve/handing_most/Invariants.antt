use Rattle.std.proofs.Common.{◌≡◌, min, max, map, drop}
use Rattle.ob_tree_law.specs.Reserve as Counts
use Rattle.ob_checked.specs.View.{actual_of}
use Rattle.ob_tree.proofs.reserve.handing_most.Given as goal

-- the most so far, and those of the actuals that are left
abbrev pub invariant-loop-actual : goal.invariant-loop-actual
invariant-loop-actual l =
    max l.most (min (Counts.handing_most (map actual_of (drop l.actual-index l.actuals))) 18446744073709551615)
    ≡ min (Counts.handing_most (map actual_of l.actuals)) 18446744073709551615
