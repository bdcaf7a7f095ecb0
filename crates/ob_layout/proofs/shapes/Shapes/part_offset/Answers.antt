use Rattle.std.proofs.Common.{◌*◌, ap, sym, ◌∙◌}
use Rattle.ob_code_scheme.specs.Types.{part_offset}
use Rattle.ob_layout.specs.Counted.{counted}
use Rattle.ob_layout.proofs.ShapeTypes.{no_shape_type, element_offset, field_at, field_end}
use Rattle.ob_layout.proofs.shapes.Shapes.part_offset.Goals as goal

pub returns-in-None : goal.returns-in-None
returns-in-None c =
    ap (λ t. counted (part_offset t c.args.position)) (sym (no_shape_type _ _ c.args.self.now.shapes _ _ c.in-Structured.is c.deref.ensures.value c.in-None.ensures.lookup.3))

pub returns-in-Elements : goal.returns-in-Elements
returns-in-Elements c =
    c.saturating_mul.ensures ∙ ap (λ n. counted (c.args.position * n)) c.words.ensures
    ∙ ap counted (element_offset _ _ c.args.self.now.shapes _ _ c.in-Structured.is c.deref.ensures.value _ c.in-Some.ensures.lookup.3.0 c.in-Some.ensures.lookup.1 c.args.position
    _ _ c.in-Elements.is)

pub returns-in-Some-get : goal.returns-in-Some-get
returns-in-Some-get c =
    field_at _ _ c.args.self.now.shapes _ _ c.in-Structured.is c.deref.ensures.value _ c.in-Some.ensures.lookup.3.0 c.in-Some.ensures.lookup.1 c.args.position
    _ c.in-Fields.is _ c.deref-in-Fields.ensures.value _ c.in-Some-get.ensures.lookup.3.0 c.in-Some-get.ensures.lookup.1

pub returns-in-None-get : goal.returns-in-None-get
returns-in-None-get c =
    field_end _ _ c.args.self.now.shapes _ _ c.in-Structured.is c.deref.ensures.value _ c.in-Some.ensures.lookup.3.0 c.in-Some.ensures.lookup.1 c.args.position
    _ c.in-Fields.is _ c.deref-in-Fields.ensures.value c.in-None-get.ensures.lookup.3
