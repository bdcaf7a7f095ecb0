use Rattle.std.proofs.Common.{is_ok}
use Rattle.ob_layout.specs.View.{shapes_of}
use Rattle.ob_layout.proofs.ShapeTypes.{shapes_if}
use Rattle.ob_layout.proofs.shapes.Shapes.add.Goals as goal

pub invariant_of-self : goal.invariant_of-self
invariant_of-self c =
    record { shapes = shapes_if (shapes_of c.args.self.now) c.args.shape c.args.self.now.shapes c.requires (is_ok c.push.result) _ c.push.ensures.items }
