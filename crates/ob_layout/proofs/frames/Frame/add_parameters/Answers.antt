use Rattle.ob_layout.specs.Shapes.{types_of}
use Rattle.ob_layout.specs.View.{shapes_of}
use Rattle.ob_layout.proofs.Framed.{room_left, parameters_left}
use Rattle.ob_layout.proofs.frames.Frame.add_parameters.Goals as goal

pub add-requires-clause-small : goal.add-requires-clause-small
add-requires-clause-small c =
    room_left _ _ _ _ _ _ _ c.loop-parameter.invariant.1
    (parameters_left (types_of (shapes_of c.args.shapes.now)) c.args.parameters.now c.loop-parameter.parameter-index c.parameter-item.result c.loop-parameter-test.true c.parameter-item.is)
    c.requires.small
