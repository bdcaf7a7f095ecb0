use Rattle.std.proofs.Common.{◌≡◌, List, min, max, map, drop}
use Rattle.ob_tree_law.specs.Reserve as Counts
use Rattle.ob_checked.specs.Types.{Entry}
use Rattle.ob_checked.specs.View.{procedure_of}
use Rattle.ob_tree.proofs.reserve.activation_most.Given as goal

-- the most so far, and those of the procedures that are left
abbrev pub invariant-loop-procedure : goal.invariant-loop-procedure
invariant-loop-procedure l =
    (types : List Entry) →
    max l.most (min (Counts.activation_most (map (procedure_of types) (drop l.procedure-index l.procedures))) 18446744073709551615)
    ≡ min (Counts.activation_most (map (procedure_of types) l.procedures)) 18446744073709551615
