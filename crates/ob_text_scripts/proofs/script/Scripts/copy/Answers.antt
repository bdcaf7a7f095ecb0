use Rattle.std.proofs.Common.{map, ap, ◌∙◌}
use Rattle.ob_text_words.specs.ScriptCalls.{script_call_of}
use Rattle.ob_text_scripts.proofs.Copies.{filled_more}
use Rattle.ob_text_scripts.proofs.script.Scripts.copy.Goals as goal

pub loop-call-preserved : goal.loop-call-preserved
loop-call-preserved c =
    ap (map script_call_of) c.in_ok-push.ensures.items
    ∙ filled_more script_call_of script_call_of c.loop-call.copies.items c.calls-calls.result.now c.loop-call.call-index c.in_ok-copied.field-0 c.call-item.result
    c.loop-call.invariant c.loop-call-test.true c.call-item.is c.in_ok-copied.ensures
