use Rattle.std.proofs.Common.{◌≡◌, ◌++◌, map, drop}
use Rattle.ob_layout.specs.Frames.{scope_by, frame_by, AreFrames}
use Rattle.ob_layout.specs.Shapes.{types_of}
use Rattle.ob_layout.specs.View.{shapes_of}
use Rattle.ob_layout.proofs.frames.Frame.of_procedures.Given as goal

-- the scopes so far, and those of the procedures that are left
abbrev pub invariant-loop-procedure : goal.invariant-loop-procedure
invariant-loop-procedure l =
    AreFrames (types_of (shapes_of l.shapes)) l.frames.items
    × (map (scope_by (types_of (shapes_of l.shapes))) l.frames.items ++ map (frame_by (types_of (shapes_of l.shapes))) (drop l.procedure-index l.procedures)
    ≡ map (frame_by (types_of (shapes_of l.shapes))) l.procedures)
