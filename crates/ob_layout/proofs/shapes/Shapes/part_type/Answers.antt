use Rattle.ob_layout.proofs.ShapeTypes.{no_part, element_type, field_part, no_field_part}
use Rattle.ob_layout.proofs.shapes.Shapes.part_type.Goals as goal

pub returns-in-None : goal.returns-in-None
returns-in-None c =
    no_part _ _ c.args.self.now.shapes _ _ c.in-Structured.is c.deref.ensures.value c.in-None.ensures.lookup.3 c.args.position

pub returns-in-Elements : goal.returns-in-Elements
returns-in-Elements c =
    element_type _ _ c.args.self.now.shapes _ _ c.in-Structured.is c.deref.ensures.value _ c.in-Some.ensures.lookup.3.0 c.in-Some.ensures.lookup.1 c.args.position
    _ _ c.in-Elements.is

pub returns-in-Some-get : goal.returns-in-Some-get
returns-in-Some-get c =
    field_part _ _ c.args.self.now.shapes _ _ c.in-Structured.is c.deref.ensures.value _ c.in-Some.ensures.lookup.3.0 c.in-Some.ensures.lookup.1 c.args.position
    _ c.in-Fields.is _ c.deref-in-Fields.ensures.value _ c.in-Some-get.ensures.lookup.3.0 c.in-Some-get.ensures.lookup.1

pub returns-in-None-get : goal.returns-in-None-get
returns-in-None-get c =
    no_field_part _ _ c.args.self.now.shapes _ _ c.in-Structured.is c.deref.ensures.value _ c.in-Some.ensures.lookup.3.0 c.in-Some.ensures.lookup.1 c.args.position
    _ c.in-Fields.is _ c.deref-in-Fields.ensures.value c.in-None-get.ensures.lookup.3
