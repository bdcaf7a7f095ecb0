-- The chosen calls so far.
use Rattle.std.proofs.Common.{◌≡◌, take}
use Rattle.std.specs.List.{flat_map}
use Rattle.ob_picture_chart.specs.Charts.{placed_at}
use Rattle.ob_picture_chart.proofs.charts.placed_of.Given as goal

abbrev pub invariant-loop-id : goal.invariant-loop-id
invariant-loop-id l = l.placed.items ≡ flat_map (placed_at l.order.ids.now l.chosen.ids.now) (take l.id-index l.order.ids.now)
