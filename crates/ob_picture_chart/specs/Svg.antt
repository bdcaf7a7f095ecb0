-- The shapes of a picture, and their text in SVG.
use Rattle.std.specs.Prelude.{ℕ, List, ◌++◌, codes, decimal}
use Rattle.std.specs.List.{flat_map}
use Rattle.ob_picture_chart.specs.Style.{style_text}
use Rattle.ob_picture_chart.specs.declared.svg.Point.{Point}

-- A line from a place to another one; a box, by its upper left corner and its size; a circle around a place; words that begin at a place, or
-- whose middle stands there, as their class says. A group is what stands between its begin, with the words that a browser shows for it,
-- and its end. The class of each says how it looks.
pub data Shape : Type 0 where
  Line : (class : List ℕ) (from to : Point) → Shape
  Box : (class : List ℕ) (corner size : Point) → Shape
  Circle : (class : List ℕ) (center : Point) (radius : ℕ) → Shape
  Words : (class : List ℕ) (place : Point) (words : List ℕ) → Shape
  Group : (title : List ℕ) → Shape
  EndGroup : Shape

-- an attribute whose value is a number; two for a place or a size
abbrev pub attribute : (name : List ℕ) → ℕ → List ℕ
attribute name n = codes " " ++ name ++ codes "=\"" ++ decimal n ++ codes "\""

abbrev pub attributes : (across down : List ℕ) → Point → List ℕ
attributes across down p = attribute across p.x ++ attribute down p.y

abbrev pub element : (name class : List ℕ) → List ℕ
element name class = codes "<" ++ name ++ codes " class=\"" ++ class ++ codes "\""

-- what stands before words, and behind them
abbrev pub open_text : (class : List ℕ) (place : Point) → List ℕ
open_text class place = element (codes "text") class ++ attributes (codes "x") (codes "y") place ++ codes ">"

abbrev pub close_text : List ℕ
close_text = codes "</text>\n"

unfoldable pub shape_text : Shape → List ℕ
shape_text (Line class from to) =
    element (codes "line") class ++ attributes (codes "x1") (codes "y1") from ++ attributes (codes "x2") (codes "y2") to ++ codes "/>\n"
shape_text (Box class corner size) =
    element (codes "rect") class ++ attributes (codes "x") (codes "y") corner ++ attributes (codes "width") (codes "height") size ++ codes "/>\n"
shape_text (Circle class center radius) =
    element (codes "circle") class ++ attributes (codes "cx") (codes "cy") center ++ attribute (codes "r") radius ++ codes "/>\n"
shape_text (Words class place words) = open_text class place ++ words ++ close_text
shape_text (Group title) = codes "<g><title>" ++ title ++ codes "</title>\n"
shape_text EndGroup = codes "</g>\n"

abbrev pub shapes_text : List Shape → List ℕ
shapes_text = flat_map shape_text

-- a picture of a size: its style and its shapes
unfoldable pub view_box : (size : Point) → List ℕ
view_box size = codes " viewBox=\"0 0 " ++ decimal size.x ++ codes " " ++ decimal size.y ++ codes "\""

unfoldable pub opening_text : (size : Point) → List ℕ
opening_text size =
    codes "<svg xmlns=\"http://www.w3.org/2000/svg\"" ++ view_box size ++ attributes (codes "width") (codes "height") size ++ codes ">\n" ++ style_text

abbrev pub svg_text : (size : Point) → List Shape → List ℕ
svg_text size shapes = opening_text size ++ shapes_text shapes ++ codes "</svg>\n"
