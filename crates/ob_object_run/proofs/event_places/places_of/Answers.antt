-- One more event is noted at its place.
use Rattle.std.proofs.Common.{◌≡◌, ℕ, sym, subst, map, take, length, arith, ◌<◌, List}
use Rattle.std.proofs.lemmas.List.{length-map, length-take-le}
use Rattle.ob_interface.specs.Call.{ObjectCall, Reply}
use Rattle.ob_object_run.proofs.Placing.{places_more, take_item}
use Rattle.ob_object_run.proofs.event_places.places_of.Goals as goal
use Rattle.wf_history.specs.History.{Event}
use Rattle.ob_object_run.specs.Noted.{noted_in}
use Rattle.ob_object_run.specs.Places.{ArePlaces, begin_noted, end_noted}
use Rattle.wf_history.specs.View.{event_of}
use Rattle.wf_history.specs.declared.event.CallId.{CallId}

pub loop-place-preserved : goal.loop-place-preserved
loop-place-preserved c =
    let i = c.loop-place.place in
    let history = map event_of c.args.events.now in
    let event = event_of c.index-events-place.result in
    let begins = noted_in c.loop-place.places.begins in
    let ends = noted_in c.loop-place.places.ends in
    let new_begins = noted_in c.note.new.self.begins in
    let new_ends = noted_in c.note.new.self.ends in
    let lt : i < length c.args.events.now = omega arith in
    let all = length-map c.args.events.now event_of in
    let count : length (take i history) ≡ i = length-take-le i history (omega (arith, all)) in
    subst (λ (es : List (Event ObjectCall Reply)). ArePlaces es new_begins new_ends)
    (sym (take_item event_of c.args.events.now i c.index-events-place.result lt c.index-events-place.is))
    (places_more (take i history) event begins ends new_begins new_ends c.loop-place.invariant
    (subst (λ (n : ℕ). (q : CallId) → new_begins q ≡ begin_noted n event q (begins q)) (sym count) c.in_ok-note.ensures.begins)
    (subst (λ (n : ℕ). (q : CallId) → new_ends q ≡ end_noted n event q (ends q)) (sym count) c.in_ok-note.ensures.ends))
