use Rattle.std.proofs.Common.{◌≡◌, ◌∷◌, List, ap, drop, map, sym, suc, ◌∙◌}
use Rattle.std.proofs.Math.Seq.{drop-cons}
use Rattle.wf_history.specs.History.{own_answers}
use Rattle.wf_history.specs.View.{event_of}
use Rattle.wf_history.specs.declared.event.Event as Rust
use Rattle.ob_desk_floor.proofs.agreeing.are_shown.Goals as goal

pub returns-in-None-clause-no : goal.returns-in-None-clause-no
returns-in-None-clause-no c =
    let i = c.loop-event.event-index in
    let events = c.args.events.now in
    let item = c.event-item.result in
    λ _ same.
    let next : drop i events ≡ item ∷ drop (suc i) events = drop-cons events i item c.loop-event-test.true ∙ ap (λ (e : Rust.Event). e ∷ drop (suc i) events) (sym c.event-item.is) in
    c.in-None.ensures.none (own_answers c.args.process (map event_of (drop (suc i) events)))
    (c.loop-event.invariant.onward same ∙ ap (λ (es : List Rust.Event). own_answers c.args.process (map event_of es)) next)
