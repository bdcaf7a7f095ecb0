use Rattle.std.proofs.Common.{◌≡◌, ◌++◌, drop}
use Rattle.ob_layout.specs.Frames.{scope_by, parameters_by, IsFrame}
use Rattle.ob_layout.specs.Shapes.{types_of}
use Rattle.ob_layout.specs.View.{shapes_of}
use Rattle.ob_layout.proofs.frames.Frame.add_parameters.Given as goal

-- the positions so far, and those of the parameters that are left
abbrev pub invariant-loop-parameter : goal.invariant-loop-parameter
invariant-loop-parameter l =
    IsFrame (types_of (shapes_of l.shapes)) l.self
    × (scope_by (types_of (shapes_of l.shapes)) l.self ++ parameters_by (types_of (shapes_of l.shapes)) (drop l.parameter-index l.parameters)
    ≡ scope_by (types_of (shapes_of l.shapes)) l.initial.self ++ parameters_by (types_of (shapes_of l.shapes)) l.parameters)
