-- One call more.
use Rattle.std.proofs.Common.{List, subst}
use Rattle.std.proofs.lemmas.List.{take_all}
use Rattle.std.proofs.lemmas.List.Elements.{All-more}
use Rattle.std.proofs.lemmas.Option.{MatchOption-at_some}
use Rattle.wf_history.specs.declared.event.CallId.{CallId}
use Rattle.wf_needed.specs.Listed.{NoneIsOpen}
use Rattle.wf_needed.specs.Needed.{IsOpen}
use Rattle.wf_needed.proofs.Placing.{ended_here}
use Rattle.wf_needed.proofs.listed_calls.have_ended.Goals as goal

pub loop-id-preserved : goal.loop-id-preserved
loop-id-preserved c = λ history processes are.
    let listed = c.in-Some.listed in
    let known = MatchOption-at_some _ _ listed c.in-Some.is (c.known_call.ensures.listed history processes are) in
    let named = MatchOption-at_some _ _ listed c.in-Some.is c.known_call.ensures.id in
    All-more (λ (id : CallId). ¬ IsOpen history id) c.args.order.now c.loop-id.id-index _ c.loop-id-test.true (c.loop-id.invariant history processes are)
    (ended_here history _ listed c.in-Some-reply._reply known named c.in-Some-reply.is)

pub returns : goal.returns
returns c = λ history processes are yes.
    subst (λ (ids : List CallId). NoneIsOpen history ids) (take_all c.loop-id.id-index c.args.order.now c.loop-id-test.false) (c.loop-id.invariant history processes are)
