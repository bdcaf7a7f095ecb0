-- The calls so far, and those from the next place on.
use Rattle.std.proofs.Common.{◌≡◌, ◌++◌, drop, string_bytes}
use Rattle.ob_picture.specs.Shapes.{cells, order_shapes}
use Rattle.ob_picture_chart.specs.Svg.{shapes_text}
use Rattle.ob_picture.proofs.order_row.push_order.Given as goal

abbrev pub invariant-loop-place : goal.invariant-loop-place
invariant-loop-place l =
    string_bytes l.text ++ shapes_text (cells l.frame l.below l.place (drop l.place l.order))
    ≡ string_bytes l.fn.text ++ shapes_text (order_shapes l.frame l.below l.order)
