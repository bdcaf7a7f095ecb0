use Rattle.ob_picture_chart.proofs.Rows.{none_more}
use Rattle.ob_picture_chart.proofs.order_places.empty_rows.Goals as goal

pub loop-preserved : goal.loop-preserved
loop-preserved c = none_more c.loop.rows.items c.push.new.self.items c.new.result c.in_ok-push.ensures.items c.loop.invariant c.new.ensures
