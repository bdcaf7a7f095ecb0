-- The calls so far.
use Rattle.std.proofs.Common.{◌≡◌, map, take}
use Rattle.ob_mean.specs.View.{call_of}
use Rattle.ob_text_words.specs.ScriptCalls.{object_call, script_call_of}
use Rattle.ob_object_calls.proofs.script_calls.object_calls.Given as goal

abbrev pub invariant-loop-call : goal.invariant-loop-call
invariant-loop-call l = map call_of l.made.items ≡ take l.call-index (map (λ c. object_call (script_call_of c)) l.calls)
