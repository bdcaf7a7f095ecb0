use Rattle.std.proofs.Common.{ap, ◌∙◌, map, [], ◌∷◌}
use Rattle.std.proofs.lemmas.Result.{err_from_is_err_and}
use Rattle.ob_checked.specs.View.{program_of, statements_in, table_of, variable_of}
use Rattle.ob_meaning.specs.ByPositionStatements.{begun}
use Rattle.ob_store.specs.View.{store_in, state_of, activation_in}
use Rattle.ob_mean.proofs.OpeningRuns.{opening_ran, opening_done, opening_stops}
use Rattle.ob_mean.proofs.openings.run_body.Goals as goal

pub returns-in_err-run : goal.returns-in_err-run
returns-in_err-run c =
    let program = c.args.program.now in
    let q = err_from_is_err_and c.from_residual-in_err-run.result c.from_residual-in_err-run.ensures.1 in
    rw (q.1, q.2)
    (opening_stops (program_of program) c.args.turns _ c.in_err-run.field-0.0 (store_in c.run.new.store)
    (opening_ran (program_of program) c.args.turns (statements_in c.as_slice-2.result.now) (store_in c.new-store.result)
    (c.new-store.ensures.activations
    ∙ ap (λ others. state_of c.in_ok-begun.begun ∷ map activation_in others) c.new.ensures.items
    ∙ ap (λ a. a ∷ []) (c.in_ok-begun.ensures ∙ ap (λ vs. begun (map (variable_of (table_of program.types)) vs)) c.as_slice.ensures.value))
    (ap statements_in c.as_slice-2.ensures.value))
    c.in_err-run.ensures.outcome)

pub returns : goal.returns
returns c =
    let program = c.args.program.now in
    opening_done (program_of program) c.args.turns _ (store_in c.run.new.store) c.into_state.result
    (opening_ran (program_of program) c.args.turns (statements_in c.as_slice-2.result.now) (store_in c.new-store.result)
    (c.new-store.ensures.activations
    ∙ ap (λ others. state_of c.in_ok-begun.begun ∷ map activation_in others) c.new.ensures.items
    ∙ ap (λ a. a ∷ []) (c.in_ok-begun.ensures ∙ ap (λ vs. begun (map (variable_of (table_of program.types)) vs)) c.as_slice.ensures.value))
    (ap statements_in c.as_slice-2.ensures.value)
    ∙ c.in_ok-run.ensures.outcome)
    c.into_state.ensures
