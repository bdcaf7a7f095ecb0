use Rattle.std.proofs.Common.{map, ap, ◌∙◌}
use Rattle.ob_mean.specs.View.{call_of}
use Rattle.ob_text_words.specs.ScriptCalls.{object_call, script_call_of}
use Rattle.ob_text_scripts.proofs.Copies.{filled_more}
use Rattle.ob_object_calls.proofs.script_calls.object_calls.Goals as goal

pub loop-call-preserved : goal.loop-call-preserved
loop-call-preserved c =
    ap (map call_of) c.in_ok-push.ensures.items
    ∙ filled_more call_of (λ c. object_call (script_call_of c)) c.loop-call.made.items c.args.calls.now c.loop-call.call-index c.in_ok-call_asked.field-0 c.call-item.result
    c.loop-call.invariant c.loop-call-test.true c.call-item.is c.in_ok-call_asked.ensures
