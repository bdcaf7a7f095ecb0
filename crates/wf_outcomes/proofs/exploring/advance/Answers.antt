-- One try, by what `step` and `arrive` say.
use Rattle.std.proofs.Common.{◌≡◌, ap, ◌∙◌, option_map, arith}
use Rattle.std.proofs.lemmas.List.{length-map}
use Rattle.std.proofs.lemmas.Option.{MatchOption-at_none, MatchOption-at_some, slice_get-map}
use Rattle.std.proofs.lemmas.Result.{IfOk-weaker}
use Rattle.wf_history.specs.View.{kept_call}
use Rattle.wf_history.proofs.Positions.{contains_at}
use Rattle.wf_outcomes.specs.Explored.{kept_in, all_kept, calls_in, IsOnlyStep, HasNoStep}
use Rattle.wf_outcomes.proofs.Growing.{tried_none, concluded}
use Rattle.wf_outcomes.proofs.Keeping.{some_at}
use Rattle.wf_outcomes.proofs.exploring.advance.Goals as goal

pub step-requires-clause-process : goal.step-requires-clause-process
step-requires-clause-process g c =
    let view = kept_in g.O.Object.meaning in
    let at = slice_get-map view c.args.seen.now.keys c.args.place ∙ ap (option_map view) c.index.ensures in
    let size = c.requires.exploring.sizes c.args.place (view c.index.result.now) at in
    let count = length-map c.args.task.now.scripts.now (λ s. Rattle.std.specs.Prelude.map kept_call s.items) in
    let p = c.requires.process in
    omega (arith, size, count, p)

pub step-requires-clause-words : goal.step-requires-clause-words
step-requires-clause-words g c = c.requires.worded c.index.result.now (contains_at c.args.seen.now.keys c.args.place c.index.result.now c.index.ensures)

pub returns-in-None-clause-exploring : goal.returns-in-None-clause-exploring
returns-in-None-clause-exploring g c =
    let view = kept_in g.O.Object.meaning in
    let task = c.args.task.now in
    let effect = g.O.Object.effect task.object.now in
    let scripts = calls_in task.scripts.now in
    let found = c.args.seen.now in
    let here = view c.index.result.now in
    let at = slice_get-map view found.keys c.args.place ∙ ap (option_map view) c.index.ensures in
    let never = MatchOption-at_none (HasNoStep effect scripts here.here c.args.process) (λ to. IsOnlyStep effect scripts here.here c.args.process (view to).here) c.in-None.is c.in_ok-step.ensures.only in
    tried_none effect scripts (g.O.Object.opening task.object.now) (all_kept g.O.Object.meaning found) c.args.place c.args.process c.requires.exploring here at never

pub returns-in-Some-clause-exploring : goal.returns-in-Some-clause-exploring
returns-in-Some-clause-exploring g c =
    let view = kept_in g.O.Object.meaning in
    let task = c.args.task.now in
    let effect = g.O.Object.effect task.object.now in
    let scripts = calls_in task.scripts.now in
    let found = c.args.seen.now in
    let here = view c.index.result.now in
    let at = slice_get-map view found.keys c.args.place ∙ ap (option_map view) c.index.ensures in
    let only = MatchOption-at_some (HasNoStep effect scripts here.here c.args.process) (λ to. IsOnlyStep effect scripts here.here c.args.process (view to).here) c.in-Some.there c.in-Some.is c.in_ok-step.ensures.only in
    let origin = some_at (λ to. (to.from ≡ c.args.place) × (to.by ≡ c.args.process)) c.in_ok-step.field-0 c.in-Some.there c.in-Some.is c.in_ok-step.ensures.origin in
    IfOk-weaker c.arrive.result _ _
    (λ room a. concluded effect scripts (g.O.Object.opening task.object.now) (all_kept g.O.Object.meaning found) c.args.place c.args.process c.requires.exploring here at (view c.in-Some.there) only origin.0 origin.1 (all_kept g.O.Object.meaning c.arrive.new.seen) a)
    c.arrive.ensures.found

pub arrive-requires-clause-words : goal.arrive-requires-clause-words
arrive-requires-clause-words g c =
    some_at (λ to. to.kept.value.words.items ≡ g.O.Object.words_of (g.O.Object.meaning to.kept.value.state)) c.in_ok-step.field-0 c.in-Some.there c.in-Some.is c.in_ok-step.ensures.words
