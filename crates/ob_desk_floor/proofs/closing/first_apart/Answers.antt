use Rattle.std.proofs.Common.{◌≡◌, ◌∙◌, All, List, ℕ, ap, below_more, map, refl, slice_index, subst}
use Rattle.ob_desk_floor.specs.Close.{AgreeAt}
use Rattle.ob_desk_floor.specs.Agreeing.{AgreesAt}
use Rattle.ob_interface.specs.Call.{ObjectCall, Reply}
use Rattle.wf_history.specs.History.{Event, own_answers}
use Rattle.wf_history.specs.View.{event_of}
use Rattle.ob_desk_floor.proofs.closing.first_apart.Goals as goal

pub loop-process-preserved : goal.loop-process-preserved
loop-process-preserved g c =
    let p = c.loop-process.process in
    let f = c.args.floor.now in
    let seats = c.args.seats.now in
    let shown : map event_of c.events-events.result.now ≡ f.machine.state.records.history = c.events-events.ensures.value ∙ c.history.ensures ∙ ap (λ m. m.state.records.history) c.machine.ensures.machine in
    let here : All (AgreesAt p (slice_index c.counts-counts.result.now p) (own_answers p (map event_of c.events-events.result.now))) seats = c.if-not-agree.ensures.yes refl in
    below_more (AgreeAt f seats) p c.loop-process.invariant
    (subst (λ (events : List (Event ObjectCall Reply)). All (AgreesAt p (slice_index f.counts p) (own_answers p events)) seats) shown
    (subst (λ (counts : List ℕ). All (AgreesAt p (slice_index counts p) (own_answers p (map event_of c.events-events.result.now))) seats) c.counts-counts.ensures here))
