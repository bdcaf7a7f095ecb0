-- No row so far has a place.
use Rattle.std.proofs.Common.{◌≡◌}
use Rattle.ob_picture_chart.proofs.order_places.empty_rows.Given as goal
use Rattle.ob_picture_chart.specs.Places.{in_rows}
use Rattle.wf_history.specs.declared.event.CallId.{CallId}

abbrev pub invariant-loop : goal.invariant-loop
invariant-loop l = (q : CallId) → in_rows l.rows.items q ≡ 0
