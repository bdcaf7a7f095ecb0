use Rattle.std.proofs.Common.{◌≡◌, map, take}
use Rattle.ob_desk_serve.specs.PromisesOfServe.{calls_for}
use Rattle.ob_text_words.specs.ScriptCalls.{script_call_of}
use Rattle.ob_desk_serve.proofs.answers.call_count.Given as goal

abbrev pub invariant-loop-call : goal.invariant-loop-call
invariant-loop-call l = l.count ≡ calls_for l.process (map script_call_of (take l.call-index l.scripts))
