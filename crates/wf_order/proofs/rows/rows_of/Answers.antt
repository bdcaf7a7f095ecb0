-- The rows of the events so far.
use Rattle.std.proofs.Common.{◌≡◌, ℕ, suc, ◌+◌, ◌≤◌, ◌++◌, ◌∷◌, [], List, sym, subst, arith, ap, ◌∙◌, map, take, Some, length, replicate}
use Rattle.std.proofs.lemmas.List.{length-map, length-take-le, take_all}
use Rattle.std.specs.List.{slice_get}
use Rattle.ob_interface.specs.Call.{ObjectCall, Reply}
use Rattle.wf_history.specs.History.{Event, IsHistory}
use Rattle.wf_history.specs.View.{event_of}
use Rattle.wf_history.proofs.Positions.{take_next}
use Rattle.wf_history.specs.declared.event.Event as Rust
use Rattle.wf_order.specs.declared.rows.Begun.{Begun}
use Rattle.wf_order.specs.declared.rows.Ended.{Ended}
use Rattle.wf_order.specs.Rows.{AreNoted}
use Rattle.wf_lookup.proofs.Items.{item_here}
use Rattle.wf_order.proofs.Noting.{noted_none}
use Rattle.wf_order.proofs.Rowing.{begun_rises, ended_rises}
use Rattle.wf_lookup.proofs.Turns.{take_whole}
use Rattle.wf_order.proofs.rows.rows_of.Goals as goal

pub loop-place-init : goal.loop-place-init
loop-place-init c =
    subst (λ (rows : List (List Begun)). AreNoted [] c.args.processes rows (map (λ row. row.items) c.in_ok-ended.ended.items)) (sym c.in_ok-begun.ensures)
    (subst (λ (rows : List (List Ended)). AreNoted [] c.args.processes (replicate c.args.processes []) rows) (sym c.in_ok-ended.ensures) (noted_none c.args.processes))

pub loop-place-preserved : goal.loop-place-preserved
loop-place-preserved c =
    let history = map event_of c.args.events.now in
    let i = c.loop-place.place in
    let event = event_of c.index-events-place.result in
    let one_more : i + 1 ≡ suc i = omega arith in
    let here : slice_get history i ≡ Some event = item_here event_of c.args.events.now i c.index-events-place.result c.loop-place-test.true c.index-events-place.is in
    let next : take (i + 1) history ≡ take i history ++ event ∷ [] = ap (λ (n : ℕ). take n history) one_more ∙ take_next history i event here in
    let within = c.loop-place-test.true in
    let size = length-map c.args.events.now event_of in
    subst (λ (es : List (Event ObjectCall Reply)). AreNoted es c.args.processes (map (λ row. row.items) c.note.new.begun.items) (map (λ row. row.items) c.note.new.ended.items)) (sym next)
    (c.in_ok-note.ensures (take i history) c.args.processes (subst (λ (es : List (Event ObjectCall Reply)). IsHistory es) next (take_whole (i + 1) history c.requires.history))
    (sym (length-take-le i history (omega (arith, within, size)))) c.loop-place.invariant)

-- where all events are noted
noted_all : (events : List Rust.Event) (processes n : ℕ) (begun : List (List Begun)) (ended : List (List Ended)) → length events ≤ n → AreNoted (take n (map event_of events)) processes begun ended → AreNoted (map event_of events) processes begun ended
noted_all events processes n begun ended le noted =
    let size = length-map events event_of in
    subst (λ (es : List (Event ObjectCall Reply)). AreNoted es processes begun ended) (take_all n (map event_of events) (omega (arith, size, le))) noted

pub invariant_of-result : goal.invariant_of-result
invariant_of-result c =
    let end = c.loop-place-test.false in
    let noted = noted_all c.args.events.now c.args.processes c.loop-place.place _ _ (omega (arith, end)) c.loop-place.invariant in
    record {
      begun_rise = begun_rises (map event_of c.args.events.now) c.requires.history c.args.processes _ _ noted;
      ended_rise = ended_rises (map event_of c.args.events.now) c.requires.history c.args.processes _ _ noted;
    }

pub returns : goal.returns
returns c =
    let end = c.loop-place-test.false in
    record {
      whole = c.requires.history;
      few = c.requires.few;
      events = sym (length-map c.args.events.now event_of);
      noted = noted_all c.args.events.now c.args.processes c.loop-place.place _ _ (omega (arith, end)) c.loop-place.invariant;
    }
