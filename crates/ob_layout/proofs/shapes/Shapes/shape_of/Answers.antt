use Rattle.std.proofs.Common.{ap, length}
use Rattle.std.proofs.lemmas.Result.{IfOk-weaker}
use Rattle.ob_checked.specs.Types as Given
use Rattle.ob_layout.specs.Shapes.{types_of}
use Rattle.ob_layout.specs.View.{shapes_of}
use Rattle.ob_layout.proofs.Laid.{record_stands, record_shape}
use Rattle.ob_layout.proofs.shapes.Shapes.shape_of.Goals as goal

pub returns-in-Record-clause-same : goal.returns-in-Record-clause-same
returns-in-Record-clause-same c =
    IfOk-weaker c.record.result _ _ (λ s h. record_stands (types_of (shapes_of c.args.self.now)) c.args.structured.now _ s h (ap (Given.structure_by (types_of (shapes_of c.args.self.now)) c.args.structured.now.place) c.in-Record.is)) c.record.ensures

pub returns-in-Record-clause-shape : goal.returns-in-Record-clause-shape
returns-in-Record-clause-shape c =
    IfOk-weaker c.record.result _ _ (λ s h. record_shape (types_of (shapes_of c.args.self.now)) c.args.structured.now _ s h _ (ap (Given.structure_by (types_of (shapes_of c.args.self.now)) c.args.structured.now.place) c.in-Record.is) c.requires.small (ap (Given.is_within (length (shapes_of c.args.self.now))) c.in-Record.is) c.requires.within) c.record.ensures
