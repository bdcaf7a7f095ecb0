-- The places of the calls so far.
use Rattle.std.proofs.Common.{◌≡◌, take}
use Rattle.ob_picture_chart.specs.Moments.{place_in}
use Rattle.ob_picture_chart.specs.Places.{noted_in}
use Rattle.wf_history.specs.declared.event.CallId.{CallId}
use Rattle.ob_picture_chart.proofs.order.noted.Given as goal

abbrev pub invariant-loop-index : goal.invariant-loop-index
invariant-loop-index l = (q : CallId) → noted_in l.places q ≡ place_in (take l.index l.ids) q
