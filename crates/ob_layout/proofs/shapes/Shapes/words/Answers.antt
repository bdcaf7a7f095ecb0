use Rattle.std.proofs.Common.{sym, ap}
use Rattle.ob_code_scheme.specs.Types.{words}
use Rattle.ob_layout.proofs.ShapeTypes.{words_at, no_shape_type}
use Rattle.ob_layout.proofs.shapes.Shapes.words.Goals as goal

pub returns-in-Some : goal.returns-in-Some
returns-in-Some c =
    words_at _ _ c.args.self.now.shapes _ _ c.in-Structured.is c.deref.ensures.value _ c.in-Some.ensures.lookup.3.0 c.in-Some.ensures.lookup.1

pub returns-in-None : goal.returns-in-None
returns-in-None c =
    ap words (sym (no_shape_type _ _ c.args.self.now.shapes _ _ c.in-Structured.is c.deref.ensures.value c.in-None.ensures.lookup.3))
