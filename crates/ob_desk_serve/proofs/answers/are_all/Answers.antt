use Rattle.std.proofs.Common.{◌≡◌, ◌∙◌, sym, ap, map}
use Rattle.ob_desk_floor.specs.Seat.{answered_call}
use Rattle.ob_desk_serve.proofs.Numbered.{first_of, same_ids}
use Rattle.wf_history.specs.History.{own_answers}
use Rattle.wf_history.specs.View.{event_of}
use Rattle.ob_desk_serve.proofs.answers.are_all.Goals as goal

pub returns-then-are_shown-clause-yes : goal.returns-then-are_shown-clause-yes
returns-then-are_shown-clause-yes c = λ t.
    let shown : map answered_call c.args.answers.now ≡ own_answers c.args.process (map event_of c.args.events.now) = c.are_shown.ensures.yes c.if-are_shown.true in
    record { shown = shown; ended = ap (map first_of) (sym shown) ∙ same_ids c.args.answers.now ∙ c.are_in_turn.ensures.yes t }

pub returns-then-are_shown-clause-no : goal.returns-then-are_shown-clause-no
returns-then-are_shown-clause-no c = λ f told. c.are_in_turn.ensures.no f (sym (same_ids c.args.answers.now) ∙ ap (map first_of) told.shown ∙ told.ended)

pub returns-else-are_shown-clause-no : goal.returns-else-are_shown-clause-no
returns-else-are_shown-clause-no c = λ _ told. c.are_shown.ensures.no c.if-are_shown.false told.shown
