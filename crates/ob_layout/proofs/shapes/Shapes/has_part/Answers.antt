use Rattle.std.proofs.Common.{◌≡◌, false, length, nat_lt, rules, subst, sym}
use Rattle.std.specs.Prelude.{◌↔◌, IsTrue}
use Rattle.ob_typing.specs.Program
use Rattle.ob_code_scheme.specs.Types.{HasPart}
use Rattle.ob_layout.specs.Shapes.{type_in}
use Rattle.ob_layout.specs.View.{shapes_of}
use Rattle.ob_layout.proofs.ShapeTypes.{no_shape_type}
use Rattle.ob_layout.proofs.PartWords.{element_there, fields_there}
use Rattle.ob_layout.proofs.shapes.Shapes.has_part.Goals as goal

pub returns-in-None : goal.returns-in-None
returns-in-None c =
    subst (λ (t : Program.DataType). IsTrue false ↔ HasPart t c.args.position)
    (sym (no_shape_type _ _ c.args.self.now.shapes _ _ c.in-Structured.is c.deref.ensures.value c.in-None.ensures.lookup.3)) ((λ h. absurd (cc (h))), (λ h. absurd h))

pub returns-in-Elements : goal.returns-in-Elements
returns-in-Elements c =
    element_there _ _ c.args.self.now.shapes _ _ c.in-Structured.is c.deref.ensures.value _ c.in-Some.ensures.lookup.3.0 c.in-Some.ensures.lookup.1 c.args.position
    _ _ c.in-Elements.is

pub returns-in-Fields : goal.returns-in-Fields
returns-in-Fields c =
    let count : c.len.result ≡ length c.in-Fields.fields.items = search rules in
    subst (λ n. IsTrue (nat_lt c.args.position n) ↔ HasPart (type_in (shapes_of c.args.self.now) c.args.data_type) c.args.position) (sym count)
    (fields_there _ _ c.args.self.now.shapes _ _ c.in-Structured.is c.deref.ensures.value _ c.in-Some.ensures.lookup.3.0 c.in-Some.ensures.lookup.1 c.args.position
    _ c.in-Fields.is)
