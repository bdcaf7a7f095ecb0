-- The calls so far.
use Rattle.std.proofs.Common.{◌≡◌, map, take}
use Rattle.ob_text_words.specs.ScriptCalls.{script_call_of}
use Rattle.ob_text_scripts.proofs.script.Scripts.copy.Given as goal

abbrev pub invariant-loop-call : goal.invariant-loop-call
invariant-loop-call l = map script_call_of l.copies.items ≡ take l.call-index (map script_call_of l.calls)
