-- The calls so far, and those of the rest.
use Rattle.std.proofs.Common.{◌≡◌, ◌++◌, drop, map}
use Rattle.ob_object_outcomes.specs.Scripts.{calls_by}
use Rattle.ob_text_words.specs.ScriptCalls.{script_call_of}
use Rattle.wf_history.specs.View.{kept_call}
use Rattle.ob_object_outcomes.proofs.scripts.own_calls.Given as goal

abbrev pub invariant-loop-call : goal.invariant-loop-call
invariant-loop-call l =
    map kept_call l.own.items ++ calls_by l.process (map script_call_of (drop l.call-index l.calls)) ≡ calls_by l.process (map script_call_of l.calls)
