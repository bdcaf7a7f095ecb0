use Rattle.std.proofs.Common.{◌≡◌, ◌-◌, drop, length}
use Rattle.ob_checked.specs.Types as Given
use Rattle.ob_checked.specs.View.{table_of}
use Rattle.ob_layout.specs.Shapes.{types_of}
use Rattle.ob_layout.specs.View.{shapes_of}
use Rattle.ob_layout.proofs.shapes.Shapes.of.Given as goal

-- the shapes so far stand for the entries so far
abbrev pub invariant-loop-structured : goal.invariant-loop-structured
invariant-loop-structured l =
    (Given.types_behind (types_of (shapes_of l.shapes)) (drop (length (shapes_of l.shapes)) (table_of l.types)) ≡ Given.types_of (table_of l.types))

abbrev pub decreases-loop-structured : goal.decreases-loop-structured
decreases-loop-structured l = length (table_of l.types) - length (shapes_of l.shapes)
