use Rattle.std.proofs.Common.{◌≡◌, sym, ◌∙◌, below_more}
use Rattle.ob_desk_floor.specs.Close.{seats_at}
use Rattle.ob_desk_floor.proofs.seating.first_uneven.Goals as goal

pub loop-process-preserved : goal.loop-process-preserved
loop-process-preserved g c = below_more (λ p. seats_at p c.args.seats.now ≡ 1) c.loop-process.process c.loop-process.invariant (sym c.count_seats.ensures ∙ c.if-count_seats-ne1.false)
