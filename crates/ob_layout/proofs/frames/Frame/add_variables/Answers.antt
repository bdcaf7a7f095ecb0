use Rattle.ob_layout.specs.Shapes.{types_of}
use Rattle.ob_layout.specs.View.{shapes_of}
use Rattle.ob_layout.proofs.Framed.{room_left, variables_left}
use Rattle.ob_layout.proofs.frames.Frame.add_variables.Goals as goal

pub add-requires-clause-small : goal.add-requires-clause-small
add-requires-clause-small c =
    room_left _ _ _ _ _ _ _ c.loop-variable.invariant.1
    (variables_left (types_of (shapes_of c.args.shapes.now)) c.args.variables.now c.loop-variable.variable-index c.variable-item.result c.loop-variable-test.true c.variable-item.is)
    c.requires.small
