use Rattle.std.proofs.Common.{◌∙◌, length, ap, arith}
use Rattle.std.specs.Iterator.Adapters.{zip_first, zip_second}
use Rattle.std.specs.Slice.Iter.{iter_rest}
use Rattle.std.proofs.lemmas.List.{length_push}
use Rattle.std.proofs.lemmas.Slice.Zip.{zip_turn, zip_end}
use Rattle.ob_grammar.proofs.Exits.{passed_on}
use Rattle.ob_scopes.specs.Names.{types_in, env_of}
use Rattle.ob_rules.proofs.Steps.{fails_as}
use Rattle.ob_scopes.proofs.Lists.{next_left}
use Rattle.ob_rules.proofs.Passed.{actuals_next, first_fails, actuals_end}
use Rattle.ob_rules.proofs.statements.actuals.Goals as goal

pub returns-in_err-passed-clause-fault : goal.returns-in_err-passed-clause-fault
returns-in_err-passed-clause-fault c =
    let turn =
    zip_turn c.args.parameters.now c.args.written.now c.loop-parameter.yielded
    c.into_iter-parameter-iterator.result c.loop-parameter.parameter-iterator c.next.new.self c.next.result
    (ap (λ z. iter_rest (zip_first z)) c.into_iter-parameter-iterator.ensures.into_iter_gives ∙ ap iter_rest c.zip-parameter-items.ensures.first ∙ c.iter.ensures.rest)
    (ap (λ z. iter_rest (zip_second z)) c.into_iter-parameter-iterator.ensures.into_iter_gives ∙ c.zip-parameter-items.ensures.second.0)
    c.loop-parameter.yielded_by (c.in-Some.parameter, c.in-Some.expr) c.in-Some.is c.next.ensures.steps in
    let k = length c.loop-parameter.yielded in
    let p = c.in-Some.parameter.now in
    let e = c.in-Some.expr.now in
    passed_on _ _ _ c.from_residual.ensures.1
    (fails_as _ _ _ c.loop-parameter.invariant
    (first_fails (env_of c.args.scopes.now) (types_in c.args.scopes.now) c.args.parameters.now c.args.written.now k p e
    (next_left c.args.parameters.now k p turn.0 (turn.2 p)) (next_left c.args.written.now k e turn.1 (turn.3 e)) _ c.loop-parameter.checked.items c.in_err-passed.ensures.fault))

pub loop-parameter-preserved : goal.loop-parameter-preserved
loop-parameter-preserved c =
    let turn =
    zip_turn c.args.parameters.now c.args.written.now c.loop-parameter.yielded
    c.into_iter-parameter-iterator.result c.loop-parameter.parameter-iterator c.next.new.self c.next.result
    (ap (λ z. iter_rest (zip_first z)) c.into_iter-parameter-iterator.ensures.into_iter_gives ∙ ap iter_rest c.zip-parameter-items.ensures.first ∙ c.iter.ensures.rest)
    (ap (λ z. iter_rest (zip_second z)) c.into_iter-parameter-iterator.ensures.into_iter_gives ∙ c.zip-parameter-items.ensures.second.0)
    c.loop-parameter.yielded_by (c.in-Some.parameter, c.in-Some.expr) c.in-Some.is c.next.ensures.steps in
    let env = env_of c.args.scopes.now in
    let types = types_in c.args.scopes.now in
    let ps = c.args.parameters.now in
    let es = c.args.written.now in
    let k = length c.loop-parameter.yielded in
    let p = c.in-Some.parameter.now in
    let e = c.in-Some.expr.now in
    rw (length_push, c.in_ok-push.ensures.items)
    (c.loop-parameter.invariant
    ∙ actuals_next env types ps es k p e (next_left ps k p turn.0 (turn.2 p)) (next_left es k e turn.1 (turn.3 e)) c.in_ok-passed.passed c.in_ok-passed.ensures.typed c.loop-parameter.checked.items)

pub returns-clause-typed : goal.returns-clause-typed
returns-clause-typed c =
    let end = zip_end c.args.parameters.now c.args.written.now c.loop-parameter.yielded
    c.into_iter-parameter-iterator.result c.loop-parameter.parameter-iterator c.next.new.self c.next.result
    (ap (λ z. iter_rest (zip_first z)) c.into_iter-parameter-iterator.ensures.into_iter_gives ∙ ap iter_rest c.zip-parameter-items.ensures.first ∙ c.iter.ensures.rest)
    (ap (λ z. iter_rest (zip_second z)) c.into_iter-parameter-iterator.ensures.into_iter_gives ∙ c.zip-parameter-items.ensures.second.0)
    c.loop-parameter.yielded_by c.in-None.is c.next.ensures.steps in
    c.loop-parameter.invariant
    ∙ actuals_end (env_of c.args.scopes.now) (types_in c.args.scopes.now) c.args.parameters.now c.args.written.now (length c.loop-parameter.yielded) c.loop-parameter.checked.items
    (omega (arith, end, c.requires)) (omega (arith, end, c.requires))
