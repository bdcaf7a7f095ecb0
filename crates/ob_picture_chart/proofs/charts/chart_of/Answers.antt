use Rattle.std.proofs.Common.{map, rules}
use Rattle.ob_picture_chart.specs.ChartView.{moment_of}
use Rattle.ob_picture_chart.proofs.Steps.{charted}
use Rattle.ob_picture_chart.proofs.charts.chart_of.Goals as goal

pub returns-clause-chart : goal.returns-clause-chart
returns-clause-chart c =
    let chosen = rw c.deref.ensures.value at c.in_ok-chosen.ensures in
    charted c.args.processes (map moment_of c.args.moments.now) c.args.order.now c.args.calls c.in_ok-begun.begun.items c.len-total.result _ _ _ _
    c.in_ok-begun.ensures (search rules) c.in_ok-range.ensures.range (rw (c.in_ok-known.ensures, chosen) at c.in_ok-sights.ensures.sights)
    (rw (c.in_ok-known.ensures, chosen) at c.in_ok-sights.ensures.times) (rw (c.in_ok-known.ensures, chosen) at c.in_ok-order.ensures)
