use Rattle.std.proofs.Common.{◌≡◌, [], ◌∷◌, ◌++◌, map, slice_get, arith}
use Rattle.std.proofs.lemmas.Grind.{common_steps}
use Rattle.ob_picture_chart.specs.Moments.{seen}
use Rattle.ob_picture_chart.specs.ChartView.{moment_of}
use Rattle.ob_picture_chart.proofs.Steps.{seen_more}
use Rattle.wf_history.specs.View.{event_of}
use Rattle.ob_picture_chart.proofs.moments.seen_moments.Goals as goal

pub loop-number-preserved : goal.loop-number-preserved
loop-number-preserved c =
    let so_far =
    seen_more c.args.makers.now c.args.events.now c.loop-number.number (map moment_of c.loop-number.moments.items) _ c.index-events-number.result (omega arith) c.index-events-number.is c.loop-number.invariant in
    let more :
    map moment_of c.push.new.self.items
    ≡ map moment_of c.loop-number.moments.items ++ seen (event_of c.index-events-number.result) (slice_get c.args.makers.now c.loop-number.number) ∷ [] =
    grind (arith, common_steps) in
    rw more so_far
