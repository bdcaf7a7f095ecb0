-- What has been seen so far.
use Rattle.std.proofs.Common.{◌≡◌, ◌++◌, map, take}
use Rattle.ob_picture_chart.specs.Charts.{chosen_at}
use Rattle.ob_picture_chart.specs.Moments.{Takes}
use Rattle.ob_picture_chart.specs.ChartView.{sight_of}
use Rattle.ob_picture_chart.proofs.charts.push_moment.Given as goal

abbrev pub invariant-loop-id : goal.invariant-loop-id
invariant-loop-id l =
    map sight_of l.sights.items ≡ map sight_of l.fn.sights.items ++ chosen_at l.order.ids.now l.chosen.ids.now l.column (Takes (take l.id-index l.ids) l.maker)
