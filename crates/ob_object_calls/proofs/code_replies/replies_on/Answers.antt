use Rattle.std.proofs.Common.{◌≡◌, ◌∙◌, ◌<◌, ◌+◌, ℕ, List, ap, arith, get_or, length, map, subst, sym}
use Rattle.std.proofs.Math.ListN.{get_or-map}
use Rattle.std.proofs.lemmas.List.{length-map, map-append}
use Rattle.std.proofs.lemmas.List.Elements.{All-get_or}
use Rattle.ob_code_correct.specs.Compiled.{Fits}
use Rattle.ob_code_calls.specs.Standing.{IsMade}
use Rattle.ob_interface.specs.Call.{ObjectCall, Reply}
use Rattle.ob_interface.specs.View.{reply_of}
use Rattle.ob_object_compile.specs.View.{object_in}
use Rattle.ob_object_calls.proofs.SequenceByCode.{HasReplied, asked_in, fits_code, replied_all, replied_more, replied_none}
use Rattle.ob_object_calls.proofs.code_replies.replies_on.Goals as goal
use Rattle.ob_text_words.specs.ScriptCalls.{object_call, script_call_of}
use Rattle.ob_text_words.specs.declared.script_call.ScriptCall.{ScriptCall}

pub loop-call-init : goal.loop-call-init
loop-call-init c =
    let o = object_in c.args.object.now in
    subst (HasReplied o.program o.engine.budget o.opening (asked_in c.args.calls.now) 0 c.in_ok-coded.coded) (sym (ap (map reply_of) c.in_ok-replies.ensures.items))
    (replied_none o.program o.engine.budget o.opening (asked_in c.args.calls.now) c.in_ok-coded.coded c.in_ok-coded.ensures)

pub loop-call-preserved : goal.loop-call-preserved
loop-call-preserved c =
    let o = object_in c.args.object.now in
    let calls = c.args.calls.now in
    let n = c.loop-call.call-index in
    let call = c.call-item.result in
    let asked = object_call (script_call_of call) in
    let r = c.loop-call.invariant in
    let reply = reply_of c.call.result in
    let below : n < length (asked_in calls) = rw length-map c.loop-call-test.true in
    let here = ap (λ (x : ScriptCall). object_call (script_call_of x)) c.call-item.is ∙ sym (get_or-map (λ (x : ScriptCall). object_call (script_call_of x)) calls n call) in
    let is = subst (λ (x : ObjectCall). IsMade o.program o.engine.budget x r.made.state c.call.new.self reply) c.in_ok-asked.ensures
    (c.call.ensures o.program o.engine.budget r.made.state r.made.stands) in
    subst (HasReplied o.program o.engine.budget o.opening (asked_in calls) (n + 1) c.call.new.self)
    (sym (ap (map reply_of) c.in_ok-push.ensures.items ∙ map-append reply_of c.loop-call.replies.items _))
    (replied_more o.program o.engine.budget o.opening (asked_in calls) n c.loop-call.coded c.call.new.self (map reply_of c.loop-call.replies.items) r asked reply below here is)

pub returns : goal.returns
returns c =
    let o = object_in c.args.object.now in
    let calls = c.args.calls.now in
    let all = length-map calls (λ (x : ScriptCall). object_call (script_call_of x)) in
    replied_all o.program o.engine.budget o.opening (asked_in calls) c.loop-call.call-index c.loop-call.coded (map reply_of c.loop-call.replies.items) c.loop-call.invariant (omega (arith, all))
