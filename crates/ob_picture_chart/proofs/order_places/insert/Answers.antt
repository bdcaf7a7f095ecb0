use Rattle.ob_picture_chart.proofs.order_places.insert.Goals as goal

pub returns : goal.returns
returns c = c.in_ok-insert.ensures.updates.0
