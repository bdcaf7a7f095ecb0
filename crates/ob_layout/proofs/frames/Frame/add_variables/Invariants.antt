use Rattle.std.proofs.Common.{◌≡◌, ◌++◌, drop}
use Rattle.ob_layout.specs.Frames.{scope_by, variables_by, IsFrame}
use Rattle.ob_layout.specs.Shapes.{types_of}
use Rattle.ob_layout.specs.View.{shapes_of}
use Rattle.ob_layout.proofs.frames.Frame.add_variables.Given as goal

-- the positions so far, and those of the variables that are left
abbrev pub invariant-loop-variable : goal.invariant-loop-variable
invariant-loop-variable l =
    IsFrame (types_of (shapes_of l.shapes)) l.self
    × (scope_by (types_of (shapes_of l.shapes)) l.self ++ variables_by (types_of (shapes_of l.shapes)) (drop l.variable-index l.variables)
    ≡ scope_by (types_of (shapes_of l.shapes)) l.initial.self ++ variables_by (types_of (shapes_of l.shapes)) l.variables)
