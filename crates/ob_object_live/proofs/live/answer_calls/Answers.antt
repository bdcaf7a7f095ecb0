use Rattle.std.proofs.Common.{◌<◌, ◌≤◌, List, arith, length, map, string_bytes, subst, sym, take}
use Rattle.ob_checked.specs.Exports.{signatures}
use Rattle.ob_interface.specs.Export.{CallFits}
use Rattle.ob_object_live.proofs.CallMade.{SoFar, each_at, read_all, read_more, so_far_more}
use Rattle.ob_object_live.specs.Living.{Ground, IsMore, ground_of}
use Rattle.ob_text_words.specs.ScriptCalls.{ScriptCall, object_call, script_call_of}
use Rattle.ob_object_live.proofs.live.answer_calls.Goals as goal

pub answer_call-requires-clause-below : goal.answer_call-requires-clause-below
answer_call-requires-clause-below c =
    subst (λ (h : Ground). c.call-item.result.process < h.processes) (sym c.loop-call.invariant.ground)
    (each_at (λ (x : ScriptCall). x.process < (ground_of c.args.live.ground).processes) c.args.calls.now c.loop-call.call-index c.call-item.result c.loop-call-test.true
    c.call-item.is c.requires.below)

pub answer_call-requires-clause-fit : goal.answer_call-requires-clause-fit
answer_call-requires-clause-fit c =
    subst (λ (h : Ground). CallFits (signatures h.program) (object_call (script_call_of c.call-item.result))) (sym c.loop-call.invariant.ground)
    (each_at (λ (x : ScriptCall). CallFits (signatures (ground_of c.args.live.ground).program) (object_call x)) c.args.calls.now c.loop-call.call-index c.call-item.result
    c.loop-call-test.true c.call-item.is c.requires.fit)

pub loop-call-preserved : goal.loop-call-preserved
loop-call-preserved c =
    let g = ground_of c.args.live.ground in
    let calls = c.args.calls.now in
    let i = c.loop-call.call-index in
    let new = string_bytes c.answer_call.new.lines in
    subst (λ (cs : List ScriptCall). SoFar g c.args.live cs new c.in_ok-live.live) (sym (read_more calls i c.call-item.result c.loop-call-test.true c.call-item.is))
    (so_far_more g c.args.live c.loop-call.live c.in_ok-live.live (take i (map script_call_of calls)) (script_call_of c.call-item.result)
    (string_bytes c.loop-call.lines) new c.loop-call.invariant c.in_ok-live.ensures.same c.in_ok-live.ensures.more)

pub returns : goal.returns
returns c before at =
    let past : length c.args.calls.now ≤ c.loop-call.call-index = omega (arith, c.loop-call-test.false) in
    subst (λ (cs : List ScriptCall). IsMore (ground_of c.args.live.ground) before cs (string_bytes c.loop-call.lines) c.loop-call.live)
    (read_all c.args.calls.now c.loop-call.call-index past) (c.loop-call.invariant.made before at)
