-- What the parts of a layout stand for.
use Rattle.std.specs.Prelude.{List}
use Rattle.ob_layout.specs.declared.shapes.Shape.{Shape}
use Rattle.ob_layout.specs.declared.shapes.Shapes.{Shapes}

-- the arrays and records, by number
abbrev pub shapes_of : Shapes → List Shape
shapes_of s = s.all.items
